-- The map for which the files of a generation stand. The layout of the files is this project's own.
use Rattle.std.specs.Prelude.{◌≡◌, ◌≢◌, ◌≤◌, ℕ, List, [], ◌∷◌, ◌++◌, length, map, Option, Some, None}
use Rattle.std.specs.declared.cmp.Ordering.TheVariants.{Less}
use Rattle.std.specs.FinMap as finite
use Rattle.key_types.specs.Columns.{Columns}
use Rattle.key_types.specs.Table.{Entry, Table, string_cmp}
use Rattle.outside.specs.Files.{Files, bytes_of}
use Rattle.data_file.specs.Listing.{Row, Partition, ArePartitions, Lists}
use Rattle.table_files.specs.IndexMeaning.{IndexFilesStand}
use Rattle.table_files.specs.Indexes.{placed}
use Rattle.table_files.specs.Names.{data_id, partitions_id, rows_id, schema_id}
use Rattle.table_files.specs.SchemaFile.{IsSchemaFile}

-- ---- the entries that Data.db lists

-- the entry of a partition's static value, where it has one: its key has the partition's string
abbrev pub static_entries : List ℕ → Option (List ℕ) → List Entry
static_entries key None = []
static_entries key (Some value) = (key, value) ∷ []

-- the entries of a partition's rows: the partition's string before that of the row, and the value
abbrev pub row_entries : List ℕ → List Row → List Entry
row_entries key [] = []
row_entries key (row ∷ rows) = (key ++ row.clustering, row.value) ∷ row_entries key rows

-- those of all partitions
abbrev pub entries_in : List Partition → List Entry
entries_in [] = []
entries_in (partition ∷ partitions) =
    static_entries partition.key partition.static_part ++ (row_entries partition.key partition.rows ++ entries_in partitions)

-- each string is above the one before
abbrev pub StringsAscend : List (List ℕ) → Type 0
StringsAscend [] = Unit {0}
StringsAscend (string ∷ []) = Unit {0}
StringsAscend (string ∷ next ∷ strings) = (string_cmp string next ≡ Less) × StringsAscend (next ∷ strings)

-- each partition has a static value or a row, and its rows ascend
abbrev pub RowsAscend : List Partition → Type 0
RowsAscend [] = Unit {0}
RowsAscend (partition ∷ partitions) =
    (partition.static_part ≡ None → partition.rows ≢ []) × StringsAscend (map (λ row. row.clustering) partition.rows) × RowsAscend partitions

-- The partitions are those of a table: partitions and rows ascend, and there are at most a million entries.
pub record AreOfTable (columns : Columns) (partitions : List Partition) : Type 0 where
  pub are : ArePartitions columns partitions
  pub ascend : StringsAscend (map (λ partition. partition.key) partitions)
  pub rows : RowsAscend partitions
  pub few : length (entries_in partitions) ≤ 1000000

-- ---- the files

-- the bytes of Data.db list exactly these entries, partitions and rows ascending, and no partition that has neither a static value nor a row
pub record Holds (columns : Columns) (bytes : List ℕ) (entries : List Entry) : Type 0 where
  pub partitions : List Partition
  pub listed : Lists columns bytes partitions
  pub ascend : StringsAscend (map (λ partition. partition.key) partitions)
  pub rows : RowsAscend partitions
  pub same : entries_in partitions ≡ entries

-- The files of a generation stand for a map under these columns.
pub record StandFor (files : Files) (generation : ℕ) (columns : Columns) (table : Table) : Type 0 where
  -- Data.db holds the entries of the map
  pub held : Holds columns (bytes_of files (data_id generation)) (finite.entries table)
  -- Partitions.db and Rows.db index the partitions that it lists
  pub indexes : IndexFilesStand (bytes_of files (partitions_id generation)) (bytes_of files (rows_id generation))
      (placed columns.static_value held.partitions)
  -- Schema.txt is the whole text of the columns
  pub schema : IsSchemaFile columns (bytes_of files (schema_id generation))
