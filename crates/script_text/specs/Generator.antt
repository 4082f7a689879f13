-- The script that a number generates. This project's own; the numbers are those of a linear congruential generator.
use Rattle.std.specs.Prelude.{◌≡◌, ◌≤◌, ℕ, zero, suc, ◌+◌, ◌*◌, ◌/◌, ◌%◌, ◌^◌, List, [], ◌∷◌, ◌++◌, Bool, nat_lt, codes, decimal, if◌then◌else◌}
use Rattle.key_types.specs.Literals.{hex_digit}

-- ---- the numbers

-- the number behind another, modulo 2^64
abbrev pub next_number : ℕ → ℕ
next_number x = (x * 6364136223846793005 + 1442695040888963407) % 2 ^ 64

-- the first is the seed
abbrev pub number_at : ℕ → ℕ → ℕ
number_at seed zero = seed
number_at seed (suc i) = next_number (number_at seed i)

-- ---- the rows

-- the last so many hexadecimal digits of a number, in lower case, the greatest first; each has four bits
unfoldable pub hexadecimal : ℕ → ℕ → List ℕ
hexadecimal zero n = []
hexadecimal (suc k) n = hex_digit (n / 2 ^ (4 * k) % 16) ∷ hexadecimal k n

-- the key of a row, counted from 0: its last digit and half the one before name the partition, and it itself the row within
unfoldable pub generated_key : ℕ → List ℕ
generated_key row = codes "('u" ++ (decimal (row % 10) ++ (codes "', " ++ (decimal (row / 10 % 2) ++ (codes ") (" ++ (decimal row ++ codes ")")))))

-- the line that puts it, with a value of 16 digits
unfoldable pub generated_put : ℕ → ℕ → List ℕ
generated_put row number = codes "put " ++ (generated_key row ++ (codes " = '" ++ (hexadecimal 16 number ++ (codes "'" ++ 10 ∷ []))))

-- the line that asks for it
unfoldable pub generated_get : ℕ → List ℕ
generated_get row = codes "get " ++ (generated_key row ++ 10 ∷ [])

-- of `count` rows so many are followed by a get, evenly: those behind which another whole one is due
abbrev pub has_get : ℕ → ℕ → ℕ → Bool
has_get count gets row = nat_lt (row * gets / count) ((row + 1) * gets / count)

-- what it asks for: a row up to this one, by the upper bits of the row's number
abbrev pub asked_row : ℕ → ℕ → ℕ
asked_row row number = number / 2 ^ 33 % (row + 1)

-- a row with this number, and behind it its get where it has one
unfoldable pub generated_row : ℕ → ℕ → ℕ → ℕ → List ℕ
generated_row count gets row number = generated_put row number ++ (if has_get count gets row then generated_get (asked_row row number) else [])

-- the first so many rows, each with the next number behind the seed
unfoldable pub first_rows : ℕ → ℕ → ℕ → ℕ → List ℕ
first_rows seed count gets zero = []
first_rows seed count gets (suc row) = first_rows seed count gets row ++ generated_row count gets row (number_at seed (row + 1))

-- the greatest count of rows
abbrev pub most_rows : ℕ
most_rows = 500000

-- all of them
abbrev pub generated_script : ℕ → ℕ → ℕ → List ℕ
generated_script seed count gets = first_rows seed count gets count

-- ---- how many gets there are

-- how many of the first rows a get follows
abbrev pub gets_among : ℕ → ℕ → ℕ → ℕ
gets_among count gets zero = 0
gets_among count gets (suc row) = gets_among count gets row + (if has_get count gets row then 1 else 0)

-- among all rows there are as many gets as asked for
abbrev pub GeneratesGets : Type 0
GeneratesGets = (count gets : ℕ) → 1 ≤ count → gets ≤ count → gets_among count gets count ≡ gets
