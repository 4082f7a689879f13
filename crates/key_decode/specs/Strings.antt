-- Which bytes are the string of a partition or of a row within its partition, and where the string of a row parts.
use Rattle.std.specs.Prelude.{◌≡◌, ℕ, List, ◌++◌, Ok}
use Rattle.key_types.specs.Kinds.{Kinds, Vals}
use Rattle.byte_comparable.specs.Strings.{string_of}

-- the bytes are the string of some components of these types, which has at most 1,024 bytes
abbrev pub IsStringOf : Kinds → List ℕ → Type 0
IsStringOf kinds bytes = (components : Vals) × (string_of kinds components ≡ Ok bytes)

-- the bytes begin with a string of these types, behind which these stand
abbrev pub SplitsString : Kinds → List ℕ → List ℕ → List ℕ → Type 0
SplitsString kinds bytes string rest = IsStringOf kinds string × (bytes ≡ string ++ rest)

-- the bytes begin with a string of these types
abbrev pub BeginsString : Kinds → List ℕ → Type 0
BeginsString kinds bytes = (string : List ℕ) × (rest : List ℕ) × SplitsString kinds bytes string rest
