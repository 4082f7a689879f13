-- Numbers in words.
use Rattle.std.specs.Prelude.{ℕ, ◌+◌, ◌-◌, ◌*◌, ◌^◌, nat_lt, ◌&&◌, not, Bool, List, [], ◌∷◌, Option, None, Some, Result, Ok, Err, if◌then◌else◌}
use Rattle.clap.specs.Walk.{Text}
use Rattle.command_line.specs.declared.command.WordsError.{WordsError}
use Rattle.command_line.specs.declared.command.WordsError.TheVariants.{Usage}

-- the byte is a decimal digit
abbrev pub is_digit : ℕ → Bool
is_digit b = not (nat_lt b 48) && nat_lt b 58

-- a number that fits 64 bits
abbrev pub fitting : ℕ → Option ℕ
fitting n = if nat_lt n (2 ^ 64) then Some n else None

-- the number with one more decimal digit, where it fits 64 bits
abbrev pub with_digit : ℕ → ℕ → Option ℕ
with_digit n b = if is_digit b then fitting (n * 10 + (b - 48)) else None

-- the number that digits behind it make of it
abbrev pub digits_from : Option ℕ → Text → Option ℕ
digits_from None bs = None
digits_from (Some n) [] = Some n
digits_from (Some n) (b ∷ bs) = digits_from (with_digit n b) bs

-- the number that decimal digits spell, where it fits 64 bits
abbrev pub number_of : Text → Option ℕ
number_of [] = None
number_of (b ∷ bs) = digits_from (Some 0) (b ∷ bs)

-- a number within its limits
abbrev pub within : ℕ → ℕ → Option ℕ → Result ℕ WordsError
within least most None = Err Usage
within least most (Some n) = if nat_lt n least then Err Usage else (if nat_lt most n then Err Usage else Ok n)

-- the number of an option, within its limits, or this one where the option isn't there
abbrev pub number_in : ℕ → ℕ → ℕ → Option Text → Result ℕ WordsError
number_in default least most None = Ok default
number_in default least most (Some text) = within least most (number_of text)

-- the number of an option that has to be there, within its limits
abbrev pub needed_number : ℕ → ℕ → Option Text → Result ℕ WordsError
needed_number least most None = Err Usage
needed_number least most (Some text) = within least most (number_of text)

-- how many cells a shard has
abbrev pub cells_in : Option Text → Result ℕ WordsError
cells_in = number_in 262144 1024 4194304

-- how many readers there are
abbrev pub readers_in : Option Text → Result ℕ WordsError
readers_in = number_in 2 1 8

-- how many rows a script has, and how many of its lines read one: at most as many
abbrev pub rows_with : Result ℕ WordsError → Option Text → Result (ℕ × ℕ) WordsError
rows_with (Err e) gets = Err Usage
rows_with (Ok count) gets = with_gets count (number_in 0 0 count gets)
  where
    with_gets : ℕ → Result ℕ WordsError → Result (ℕ × ℕ) WordsError
    with_gets count (Err e) = Err Usage
    with_gets count (Ok gets) = Ok (count, gets)

abbrev pub rows_and_gets : Option Text → Option Text → Result (ℕ × ℕ) WordsError
rows_and_gets count gets = rows_with (needed_number 1 500000 count) gets
