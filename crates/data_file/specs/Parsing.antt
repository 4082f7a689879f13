-- What bytes begin with before their strings are looked at: only private contracts cite it.
use Rattle.std.specs.Prelude.{◌≡◌, ℕ, ◌<◌, ◌≤◌, ◌^◌, nat_lt, Bool, false, List, ◌++◌, length, Option, None, Some, IfSome}
use Rattle.byte_comparable.specs.Strings.{longest_string}
use Rattle.data_file.specs.Listing.{row_bytes, static_bytes}
use Rattle.data_file.specs.Reading.{BeginsEnd}

-- two bytes stand there that count more than 1,024
abbrev pub counts_too_many : Option ℕ → Bool
counts_too_many None = false
counts_too_many (Some count) = nat_lt longest_string count

-- the bytes begin with a row of this clustering and this value, as far as their lengths say
abbrev pub IsFrame : List ℕ → List ℕ → List ℕ → Type 0
IsFrame bytes clustering value =
    (length clustering < 2 ^ 16) × (length value < 2 ^ 16) × ((rest : List ℕ) × (bytes ≡ row_bytes clustering value ++ rest))

-- neither a row whose clustering has at most 1,024 bytes nor an end begins here
abbrev pub NoFrame : List ℕ → Type 0
NoFrame bytes = ((clustering value : List ℕ) → length clustering ≤ longest_string → IsFrame bytes clustering value → ⊥) × (BeginsEnd bytes → ⊥)

-- the bytes begin with a static part of this value, as far as its length says
abbrev pub IsStaticPartFrame : List ℕ → Option (List ℕ) → Type 0
IsStaticPartFrame bytes value = IfSome value (λ v. length v < 2 ^ 16) × ((rest : List ℕ) × (bytes ≡ static_bytes value ++ rest))

-- no static part begins here
abbrev pub NoStaticPartFrame : List ℕ → Type 0
NoStaticPartFrame bytes = (value : Option (List ℕ)) → IsStaticPartFrame bytes value → ⊥
