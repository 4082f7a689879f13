-- The entries that a writer of a table is given, in order, and the partitions that they are.
use Rattle.std.specs.Prelude.{◌≡◌, ◌⊎◌, ℕ, ◌+◌, ◌<◌, List, [], ◌∷◌, ◌++◌, length, Option, None, Some, if◌then◌else◌, nat_eq}
use Rattle.std.specs.declared.cmp.Ordering.TheVariants.{Less}
use Rattle.std.specs.Cmp.Lexicographic.{pointwise}
use Rattle.outside.specs.Files.{Files}
use Rattle.key_types.specs.Columns.{Columns}
use Rattle.key_types.specs.Table.{Entry, string_cmp}
use Rattle.key_types.specs.declared.schema.ValueType.{ValueType}
use Rattle.key_decode.specs.Strings.{IsStringOf}
use Rattle.data_file.specs.Listing.{FitsStaticType, IsRow, Partition, Row, data_bytes, head_bytes, row_bytes, rows_bytes, static_part_bytes}
use Rattle.row_index.specs.Entries.{Block}
use Rattle.table_files.specs.Blocks.{block_start, blocks_of, rows_at}
use Rattle.table_files.specs.Indexes.{all_indexed, all_numbered, placed}
use Rattle.table_files.specs.Names.{partitions_id, rows_id}
use Rattle.table_files.specs.Standing.{entries_in}
use Rattle.flush_walk.specs.Growing.{Growing}

-- an entry: the string of its partition, that of its row within it, which is empty for a static value, and the value
pub record Given : Type 0 where
  pub partition : List ℕ
  pub clustering : List ℕ
  pub value : List ℕ

abbrev pub entry_given : List ℕ → List ℕ → List ℕ → Given
entry_given partition clustering value = record { partition = partition; clustering = clustering; value = value }

-- the same as an entry of a map
abbrev pub map_entry : Given → Entry
map_entry e = (e.partition ++ e.clustering, e.value)

-- ---- the partitions of entries

-- the value of an entry is its partition's static value
abbrev pub static_given : List ℕ → List ℕ → Option (List ℕ)
static_given [] value = Some value
static_given (b ∷ bs) value = None

-- or that of a row
abbrev pub rows_given : List ℕ → List ℕ → List Row
rows_given [] value = []
rows_given (b ∷ bs) value = record { clustering = b ∷ bs; value = value } ∷ []

-- a partition of one entry
abbrev pub begun_with : Given → Partition
begun_with e =
    record { key = e.partition; static_part = static_given e.clustering e.value; rows = rows_given e.clustering e.value }

-- with one row more
abbrev pub with_row : Partition → List ℕ → List ℕ → Partition
with_row p clustering value = record p { rows = p.rows ++ record { clustering = clustering; value = value } ∷ [] }

-- what a writer was given: the generation, the columns, the files before the first call, the partitions that are whole,
-- and the one to which the last entry belongs
pub record Flushing : Type 0 where
  pub generation : ℕ
  pub columns : Columns
  pub before : Option Files
  pub closed : List Partition
  pub current : Option Partition

abbrev pub nothing_given : ℕ → Columns → Option Files → Flushing
nothing_given generation columns before =
    record { generation = generation; columns = columns; before = before; closed = []; current = None }

abbrev pub listed : Option Partition → List Partition
listed None = []
listed (Some p) = p ∷ []

-- all partitions so far
abbrev pub partitions_given : Flushing → List Partition
partitions_given w = w.closed ++ listed w.current

-- no partition is open
abbrev pub turned : Flushing → Flushing
turned w = record w { closed = w.closed ++ listed w.current; current = None }

-- this one is open
abbrev pub opened : Flushing → Partition → Flushing
opened w p = record w { current = Some p }

abbrev pub with_entry_in : Option Partition → Flushing → Given → Flushing
with_entry_in None w e = opened (turned w) (begun_with e)
with_entry_in (Some p) w e = if pointwise nat_eq p.key e.partition then opened w (with_row p e.clustering e.value) else opened (turned w) (begun_with e)

-- One entry more: it goes into the open partition where it is of that, and else begins one.
abbrev pub with_entry : Flushing → Given → Flushing
with_entry w e = with_entry_in w.current w e

-- ---- which entry may come next

-- the clustering of the last of some rows behind one with this clustering
abbrev pub clustering_behind : List ℕ → List Row → List ℕ
clustering_behind before [] = before
clustering_behind before (row ∷ rows) = clustering_behind row.clustering rows

-- that of the last row, or nothing
abbrev pub last_clustering : List Row → List ℕ
last_clustering [] = []
last_clustering (row ∷ rows) = clustering_behind row.clustering rows

-- the entry is above the last: its partition's string is, or it is of the same partition and above its last row
abbrev pub IsAboveLast : Flushing → Option Partition → Given → Type 0
IsAboveLast w None e = w.closed ≡ []
IsAboveLast w (Some p) e =
    (string_cmp p.key e.partition ≡ Less)
    ⊎ ((p.key ≡ e.partition) × (string_cmp (last_clustering p.rows) e.clustering ≡ Less))

-- the entry is of a row of the table, or a static value
abbrev pub IsBehindKey : Columns → List ℕ → List ℕ → Type 0
IsBehindKey columns [] value = FitsStaticType columns.static_value (Some value)
IsBehindKey columns (b ∷ bs) value = IsRow columns (b ∷ bs) value

-- The entry may come next: it is one of the table, above the last, and of at most a million.
pub record TakesEntry (w : Flushing) (e : Given) : Type 0 where
  pub partition : IsStringOf w.columns.partition e.partition
  pub behind : IsBehindKey w.columns e.clustering e.value
  pub above : IsAboveLast w w.current e
  pub few : length (entries_in (partitions_given w)) < 1000000

-- ---- more entries, in order

abbrev pub with_entries : Flushing → List Given → Flushing
with_entries w [] = w
with_entries w (e ∷ es) = with_entries (with_entry w e) es

-- each of them may come next behind those before it
abbrev pub TakesEntries : Flushing → List Given → Type 0
TakesEntries w [] = Unit {0}
TakesEntries w (e ∷ es) = TakesEntry w e × TakesEntries (with_entry w e) es

-- ---- what the files are given

-- the bytes of a partition without its end
abbrev pub opened_bytes : Option ValueType → Partition → List ℕ
opened_bytes static p = head_bytes p.key ++ (static_part_bytes static p.static_part ++ rows_bytes p.rows)

abbrev pub current_bytes : Option ValueType → Option Partition → List ℕ
current_bytes static None = []
current_bytes static (Some p) = opened_bytes static p

abbrev pub current_blocks : Option ValueType → Option Partition → List Block
current_blocks static None = []
current_blocks static (Some p) = blocks_of static p

-- the bytes of all partitions so far for Data.db, the whole ones and the blocks of the open one for Rows.db, and the
-- whole ones for Partitions.db
abbrev pub growing_of : Flushing → Growing
growing_of w =
    let static = w.columns.static_value in
    let whole = placed static w.closed in
    record {
      generation = w.generation;
      before = w.before;
      listing = data_bytes static w.closed ++ current_bytes static w.current;
      rows = record {
        file = rows_id w.generation;
        done = all_indexed whole;
        begun = current_blocks static w.current;
      };
      index = record { file = partitions_id w.generation; partitions = all_numbered whole };
    }

-- ---- the last block of the open partition

-- where the block begins that the last of some rows is in; they stand behind a row that ends at `end_`
abbrev pub start_behind : ℕ → ℕ → List Row → ℕ
start_behind start end_ [] = start
start_behind start end_ (row ∷ rows) =
    start_behind (block_start start end_) (end_ + length (row_bytes row.clustering row.value)) rows

abbrev pub start_among : ℕ → List Row → ℕ
start_among at [] = 0
start_among at (row ∷ rows) = start_behind 0 (at + length (row_bytes row.clustering row.value)) rows

-- where the last block of a partition begins
abbrev pub last_start : Option ValueType → Partition → ℕ
last_start static p = start_among (rows_at static p) p.rows
