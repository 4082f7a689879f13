-- What stands behind the head of a partition. This project's own; only private contracts cite it.
use Rattle.std.specs.Prelude.{◌≡◌, ◌⊎◌, ℕ, ◌<◌, List, [], ◌++◌, length, Option, None, Some, IsSome}
use Rattle.key_types.specs.Columns.{Columns}
use Rattle.data_file.specs.Listing.{FitsStaticType, static_part_bytes}
use Rattle.data_file.specs.Reading.{NoStaticPart}
use Rattle.table_reader.specs.declared.seek.BoundString.{BoundString}
use Rattle.table_reader.specs.declared.walker.EntryStrings.{EntryStrings}
use Rattle.table_reader.specs.Ranges.{IsAbove, IsBelow}

-- the bytes begin with the static part of this value, which has so many bytes; without a static type it has none
abbrev pub IsStaticPartBehind : Columns → List ℕ → Option (List ℕ) → ℕ → Type 0
IsStaticPartBehind columns bytes static_part count = FitsStaticType columns.static_value static_part
    × (count ≡ length (static_part_bytes columns.static_value static_part))
    × ((rest : List ℕ) × (bytes ≡ static_part_bytes columns.static_value static_part ++ rest))

-- the table has a static type, and no static part begins there: whatever follows, or with too few bytes for the longest
abbrev pub NoStaticPartBehind : Columns → List ℕ → Type 0
NoStaticPartBehind columns bytes = IsSome columns.static_value
    × ((NoStaticPart columns bytes × (length bytes < 65538)) ⊎ ((more : List ℕ) → NoStaticPart columns (bytes ++ more)))

-- the static value of a partition is given, unless it is below the bound or there is none
abbrev pub GivesStatic : Option BoundString → List ℕ → Option (List ℕ) → Option EntryStrings → Type 0
GivesStatic from partition None given = given ≡ None
GivesStatic from partition (Some value) None = IsBelow from partition []
GivesStatic from partition (Some value) (Some entry) =
    (IsBelow from partition [] → ⊥) × (entry ≡ record { partition = partition; clustering = None; value = value })

-- the partition has a static value, whose entry is above the bound
abbrev pub IsStaticAbove : Option BoundString → List ℕ → Option (List ℕ) → Type 0
IsStaticAbove to partition None = ⊥
IsStaticAbove to partition (Some value) = IsAbove to partition []
