-- The bytes of a data file, and the partitions and rows that they list. The layout is this project's own.
use Rattle.std.specs.Prelude.{◌≡◌, ℕ, List, [], ◌∷◌, ◌++◌, length, Option, None, Some}
use Rattle.length_prefix.specs.Counted.{counted}
use Rattle.key_types.specs.Columns.{Columns, IsValueOf}
use Rattle.key_types.specs.declared.schema.ValueType.{ValueType}
use Rattle.key_decode.specs.Strings.{IsStringOf}

-- a row of a partition: the string of its clustering components, and its value
pub record Row : Type 0 where
  pub clustering : List ℕ
  pub value : List ℕ

-- a partition: the string of its components, its static value where it has one, and its rows
pub record Partition : Type 0 where
  pub key : List ℕ
  pub static_part : Option (List ℕ)
  pub rows : List Row

-- ---- how they are spelled

-- the head of a partition
abbrev pub head_bytes : List ℕ → List ℕ
head_bytes key = counted key

-- a row
abbrev pub row_bytes : List ℕ → List ℕ → List ℕ
row_bytes clustering value = 1 ∷ (counted clustering ++ counted value)

-- the end of a partition
abbrev pub end_bytes : List ℕ
end_bytes = 0 ∷ []

-- a static part: no value, or one
abbrev pub static_bytes : Option (List ℕ) → List ℕ
static_bytes None = 0 ∷ []
static_bytes (Some value) = 1 ∷ counted value

-- a table with a static type has a static part behind each head
abbrev pub static_part_bytes : Option ValueType → Option (List ℕ) → List ℕ
static_part_bytes None static_part = []
static_part_bytes (Some type) static_part = static_bytes static_part

-- rows, one behind the other
abbrev pub rows_bytes : List Row → List ℕ
rows_bytes [] = []
rows_bytes (row ∷ rows) = row_bytes row.clustering row.value ++ rows_bytes rows

-- a partition: its head, its static part, its rows and its end
abbrev pub partition_bytes : Option ValueType → Partition → List ℕ
partition_bytes static partition =
    head_bytes partition.key ++ (static_part_bytes static partition.static_part ++ (rows_bytes partition.rows ++ end_bytes))

-- a data file: its partitions, one behind the other
abbrev pub data_bytes : Option ValueType → List Partition → List ℕ
data_bytes static [] = []
data_bytes static (partition ∷ partitions) = partition_bytes static partition ++ data_bytes static partitions

-- ---- what may be listed

-- the static value is of the static type, and there is none where the table has no such type
abbrev pub FitsStaticType : Option ValueType → Option (List ℕ) → Type 0
FitsStaticType static None = Unit {0}
FitsStaticType None (Some value) = ⊥
FitsStaticType (Some type) (Some value) = IsValueOf type value

-- the row is one of the table
abbrev pub IsRow : Columns → List ℕ → List ℕ → Type 0
IsRow columns clustering value = IsStringOf columns.clustering clustering × IsValueOf columns.value value

abbrev pub AreRows : Columns → List Row → Type 0
AreRows columns [] = Unit {0}
AreRows columns (row ∷ rows) = IsRow columns row.clustering row.value × AreRows columns rows

abbrev pub ArePartitions : Columns → List Partition → Type 0
ArePartitions columns [] = Unit {0}
ArePartitions columns (partition ∷ partitions) =
    IsStringOf columns.partition partition.key × FitsStaticType columns.static_value partition.static_part × AreRows columns partition.rows
    × ArePartitions columns partitions

-- ---- the listing

-- the bytes of a data file list these partitions
abbrev pub Lists : Columns → List ℕ → List Partition → Type 0
Lists columns bytes partitions = (bytes ≡ data_bytes columns.static_value partitions) × ArePartitions columns partitions

-- where the partition behind these stands in the file
abbrev pub position_behind : Option ValueType → List Partition → ℕ
position_behind static partitions = length (data_bytes static partitions)
