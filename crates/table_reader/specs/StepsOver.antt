-- Steps of a walk over Data.db, by what stands there. This project's own; only private contracts cite it.
use Rattle.std.specs.Prelude.{◌≡◌, ℕ, ◌+◌, List, [], ◌∷◌, ◌++◌, length, drop, Option, None, Some}
use Rattle.key_types.specs.Columns.{Columns}
use Rattle.key_decode.specs.Strings.{IsStringOf}
use Rattle.data_file.specs.Listing.{FitsStaticType, IsRow, head_bytes, row_bytes, static_part_bytes}

-- something is so of the static value of a partition, where it has one
abbrev pub IsOfStatic : (List ℕ → List ℕ → Type 0) → List ℕ → Option (List ℕ) → Type 0
IsOfStatic Is partition None = Unit {0}
IsOfStatic Is partition (Some value) = Is partition []

-- nothing more is said of an entry
abbrev pub IsAny : List ℕ → List ℕ → Type 0
IsAny partition within = Unit {0}

-- A step goes over the head of a partition and its static part, over a row of it, or over its end; something is so of
-- the strings of the entry that it goes over.
abbrev pub StepsOver :
    Columns → (List ℕ → List ℕ → Type 0) → List ℕ → Option (List ℕ) → ℕ → Option (List ℕ) → ℕ → Type 0
StepsOver columns Is file None at None at' = ⊥
StepsOver columns Is file None at (Some key) at' = (static_part : Option (List ℕ)) × (rest : List ℕ)
    × IsStringOf columns.partition key × FitsStaticType columns.static_value static_part × IsOfStatic Is key static_part
    × (drop at file ≡ (head_bytes key ++ static_part_bytes columns.static_value static_part) ++ rest)
    × (at' ≡ at + length (head_bytes key ++ static_part_bytes columns.static_value static_part))
StepsOver columns Is file (Some key) at None at' = (rest : List ℕ) × (drop at file ≡ 0 ∷ rest) × (at' ≡ at + 1)
StepsOver columns Is file (Some key) at (Some key') at' =
    (clustering : List ℕ) × (value : List ℕ) × (rest : List ℕ) × (key' ≡ key) × IsRow columns clustering value
    × Is key clustering × (drop at file ≡ row_bytes clustering value ++ rest)
    × (at' ≡ at + length (row_bytes clustering value))
