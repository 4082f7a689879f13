-- Byte strings behind their length in two bytes. This project's own.
use Rattle.std.specs.Prelude.{◌≡◌, ◌≢◌, ℕ, ◌+◌, ◌*◌, ◌/◌, ◌%◌, ◌<◌, ◌^◌, List, [], ◌∷◌, ◌++◌, length, Option, None, Some}

-- the length in two bytes, the high one first, and the bytes
abbrev pub counted : List ℕ → List ℕ
counted bytes = length bytes / 256 ∷ length bytes % 256 ∷ bytes

-- the length that stands in the first two bytes, where they are there
abbrev pub stated_length : List ℕ → Option ℕ
stated_length [] = None
stated_length (high ∷ []) = None
stated_length (high ∷ low ∷ bytes) = Some (high * 256 + low)

-- the bytes are the beginning of some counted ones, and there is more of them
abbrev pub IsCutOff : List ℕ → Type 0
IsCutOff bytes = (item : List ℕ) × (more : List ℕ) × (length item < 2 ^ 16) × (more ≢ []) × (counted item ≡ bytes ++ more)
