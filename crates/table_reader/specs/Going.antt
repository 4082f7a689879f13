-- What a walk over Data.db goes over between two entries of its range, and how far it has to go. This project's own.
use Rattle.std.specs.Prelude.{◌≡◌, ℕ, ◌+◌, ◌≤◌, List, [], ◌∷◌, ◌++◌, length, drop, Option, None, Some, Result, Ok, Err}
use Rattle.std.specs.Prelude.{Bool, false, not, if◌then◌else◌}
use Rattle.std.specs.Ordering.{is_lt}
use Rattle.key_types.specs.Columns.{Columns}
use Rattle.key_types.specs.declared.schema.ValueType.{ValueType}
use Rattle.data_file.specs.Listing.{ArePartitions, AreRows, Partition, Row, data_bytes, row_bytes, rows_bytes}
use Rattle.data_file.specs.declared.reading.DataError.{DataError}
use Rattle.table_files.specs.Blocks.{block_size, rows_at}
use Rattle.table_files.specs.Standing.{RowsAscend}
use Rattle.table_reader.specs.declared.seek.BoundString.{BoundString}
use Rattle.table_reader.specs.declared.walker.EntryStrings.{EntryStrings}
use Rattle.table_reader.specs.Ranges.{Scanning, order_to}
use Rattle.table_reader.specs.Window.{enough}

-- ---- how far the next entry is

-- whether an entry of these strings lies below the bound from which a range goes
abbrev pub is_lower : Option BoundString → List ℕ → List ℕ → Bool
is_lower None partition within = false
is_lower (Some bound) partition within = is_lt (order_to bound partition within)

-- whether a partition has a static value whose entry isn't below the bound
abbrev pub gives_static : Option BoundString → List ℕ → Option (List ℕ) → Bool
gives_static from partition None = false
gives_static from partition (Some value) = not (is_lower from partition [])

-- How many bytes of a partition's rows a walk goes over up to the first that isn't below the bound; where all are, the
-- end of the partition comes behind them, and so many bytes of what follows it.
abbrev pub bytes_of_rows : Option BoundString → List ℕ → List Row → ℕ → ℕ
bytes_of_rows from partition [] behind = 1 + behind
bytes_of_rows from partition (row ∷ rows) behind =
    if is_lower from partition row.clustering
    then length (row_bytes row.clustering row.value) + bytes_of_rows from partition rows behind else 0

-- the same of partitions: up to the head of the one whose static value is given, or up to a row
abbrev pub bytes_of_partitions : Option BoundString → Option ValueType → List Partition → ℕ
bytes_of_partitions from static [] = 0
bytes_of_partitions from static (partition ∷ partitions) =
    if gives_static from partition.key partition.static_part then 0
    else rows_at static partition
    + bytes_of_rows from partition.key partition.rows (bytes_of_partitions from static partitions)

-- the same of a walk that is in no partition, or in one of this string of which these rows are left
abbrev pub bytes_ahead : Option BoundString → Option ValueType → Option (List ℕ) → List Row → List Partition → ℕ
bytes_ahead from static None rows partitions = bytes_of_partitions from static partitions
bytes_ahead from static (Some key) rows partitions =
    bytes_of_rows from key rows (bytes_of_partitions from static partitions)

-- From a place on Data.db lists these rows of the partition that a walk is in, and then these partitions, each of which
-- has a static value or a row; between partitions there are no such rows.
abbrev pub ListsOn : Columns → List ℕ → Option (List ℕ) → ℕ → List Row → List Partition → Type 0
ListsOn columns file None at rows partitions = (rows ≡ [])
    × (drop at file ≡ data_bytes columns.static_value partitions)
    × ArePartitions columns partitions × RowsAscend partitions
ListsOn columns file (Some key) at rows partitions = AreRows columns rows
    × (drop at file ≡ rows_bytes rows ++ 0 ∷ data_bytes columns.static_value partitions)
    × ArePartitions columns partitions × RowsAscend partitions

-- the next entry of a scan's range, what is above the range, or the file's end comes at a place of Data.db or before it
pub record ComesBy (columns : Columns) (file : List ℕ) (scan : Scanning) (place : ℕ) : Type 0 where
  pub rows : List Row
  pub partitions : List Partition
  pub lists : ListsOn columns file scan.inside scan.window.at rows partitions
  pub soon : scan.window.at + bytes_ahead scan.from columns.static_value scan.inside rows partitions ≤ place

-- ---- between two entries

-- between two entries there is at most the end of a partition and the head of the next, without a static value
abbrev pub between_rows : ℕ
between_rows = 1028

-- in a block at most so many bytes stand before its last row ends, and behind that what is between two entries
abbrev pub most_below : ℕ
most_below = block_size + enough + between_rows

-- A scan is near: at most a block, its last row and what is between two entries stand before the next entry of its
-- range.
abbrev pub IsNear : Columns → List ℕ → Scanning → Type 0
IsNear columns file scan = ComesBy columns file scan (scan.window.at + most_below)

-- A scan whose next entry came by a place has gone over at most one entry behind it, and the next one is near again;
-- where it gave none, what comes still comes by that place.
abbrev pub GoesBy : Columns → List ℕ → Scanning → ℕ → Result (Option EntryStrings) DataError → Type 0
GoesBy columns file scan place (Ok (Some entry)) =
    (scan.window.at ≤ place + enough) × ComesBy columns file scan (scan.window.at + between_rows)
GoesBy columns file scan place (Ok None) = ComesBy columns file scan place
GoesBy columns file scan place (Err e) = ComesBy columns file scan place
