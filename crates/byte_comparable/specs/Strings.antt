-- The strings of key values, or why there are none.
use Rattle.std.specs.Prelude.{◌≡◌, ℕ, ◌+◌, List, length, Option, Some, None, Result, Ok, Err, if◌then◌else◌, nat_lt, nat_le, nat_eq}
use Rattle.key_types.specs.Kinds.{Kinds, more, Vals, none, and, fits_by}
use Rattle.key_types.specs.Layout.{count_of}
use Rattle.byte_comparable.specs.Encoding.{key_string, bound_with, before_rows, after_rows}
use Rattle.byte_comparable.specs.declared.strings.KeyError.{KeyError}
use Rattle.byte_comparable.specs.declared.strings.KeyError.TheVariants.{WrongCount, WrongType, TooLong, NoMemory}
use Rattle.byte_comparable.specs.declared.strings.Side.{Side}
use Rattle.byte_comparable.specs.declared.strings.Side.TheVariants.{Before, After}

-- how many values there are
abbrev pub value_count : Vals → ℕ
value_count none = 0
value_count (and v vs) = value_count vs + 1

-- the place of the first value that doesn't fit its type, counted on from a number
abbrev pub first_misfit_from : ℕ → Kinds → Vals → Option ℕ
first_misfit_from i (more t ts) (and v vs) = if fits_by t v then first_misfit_from (i + 1) ts vs else Some i
first_misfit_from i _ _ = None

-- the greatest length of a string, in bytes
abbrev pub longest_string : ℕ
longest_string = 1024

-- a string that isn't too long, of values that all fit
abbrev pub checked_string : Option ℕ → List ℕ → Result (List ℕ) KeyError
checked_string (Some i) string = Err (WrongType i)
checked_string None string = if nat_lt longest_string (length string) then Err (TooLong (length string)) else Ok string

-- the string of all components; the refusals in their order
abbrev pub string_of : Kinds → Vals → Result (List ℕ) KeyError
string_of ts vs =
    if nat_eq (value_count vs) (count_of ts) then checked_string (first_misfit_from 0 ts vs) (key_string ts vs) else Err WrongCount

-- the last byte of a bound string
abbrev pub bound_end : Side → ℕ
bound_end Before = before_rows
bound_end After = after_rows

-- the string of leading components on a side of all rows that have them
abbrev pub bound_of : Side → Kinds → Vals → Result (List ℕ) KeyError
bound_of side ts vs =
    if nat_le (value_count vs) (count_of ts) then checked_string (first_misfit_from 0 ts vs) (bound_with (bound_end side) ts vs) else Err WrongCount

-- what is expected, unless memory ran out
abbrev pub AnswersString : Result (List ℕ) KeyError → Result (List ℕ) KeyError → Type 0
AnswersString (Err NoMemory) expected = Unit {0}
AnswersString result expected = result ≡ expected
