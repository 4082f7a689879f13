-- How often a scan's beginning reads the store over files that stand for a map, and that its next entries are near.
-- This project's own.
use Rattle.std.specs.Prelude.{◌≡◌, ℕ, ◌+◌, ◌*◌, ◌≤◌, ℤ, length, drop, Option, None, Some, Ok}
use Rattle.key_types.specs.Columns.{Columns}
use Rattle.key_types.specs.Table.{Table}
use Rattle.outside.specs.Files.{Files, bytes_of}
use Rattle.bti_reader.specs.Searches.{ceiling_in, exact_in}
use Rattle.data_file.specs.Reading.{BeginsHead}
use Rattle.index_files.specs.declared.footer.FooterNumbers.{FooterNumbers}
use Rattle.index_files.specs.Reading.{partition_place}
use Rattle.table_files.specs.Names.{data_id, partitions_id}
use Rattle.table_files.specs.Standing.{StandFor}
use Rattle.table_reader.specs.declared.place.PartitionAt.{PartitionAt}
use Rattle.table_reader.specs.declared.seek.BoundString.{BoundString}
use Rattle.table_reader.specs.Gets.{LeadsTo, TableBytes, bytes_in, number_of}
use Rattle.table_reader.specs.Going.{IsNear}
use Rattle.table_reader.specs.Left.{IsBound, NamesSome}
use Rattle.table_reader.specs.Opened.{HasFooter}
use Rattle.table_reader.specs.Ranges.{Scanning}
use Rattle.table_reader.specs.Reads.{clustering_length, path_length}
use Rattle.table_reader.specs.Scans.{Scans}
use Rattle.table_reader.specs.SeekReads.{AlwaysWithinScan, block_len}

-- ---- a scan's beginning

-- the block in which the search for a bound begins has a separator of at most so many bytes, where a number leads to
-- the bound's own partition
abbrev pub IsBlockWithin : TableBytes → BoundString → Option ℤ → ℕ → Type 0
IsBlockWithin table bound None most = Unit {0}
IsBlockWithin table bound (Some number) most = (place : PartitionAt) → LeadsTo table (partition_place number) (Ok place)
    → BeginsHead table.columns (drop place.head table.entries) bound.partition
    → block_len table.rows bound.clustering place.root ≤ most

-- the same of a scan's beginning, by the number that the partition index has along the bound's partition
abbrev pub HasBlockWithin : TableBytes → FooterNumbers → Option BoundString → ℕ → Type 0
HasBlockWithin table footer None most = Unit {0}
HasBlockWithin table footer (Some bound) most =
    (number : Option ℤ) → Ok number ≡ number_of (exact_in table.partitions footer.root bound.partition)
    → IsBlockWithin table bound number most

-- twice as many bytes as a bound's partition has, and as many as the path of the next partition and the bound's
-- clustering have; 0 without a bound
abbrev pub bound_length : TableBytes → FooterNumbers → Option BoundString → ℕ
bound_length table footer None = 0
bound_length table footer (Some bound) = 2 * length bound.partition
    + path_length (ceiling_in table.partitions footer.root bound.partition) + clustering_length bound.clustering

-- A scan's beginning reads the store at most so often, and as often as the separator of its block has bytes, and 192
-- times more.
abbrev pub IsScanBounded : TableBytes → FooterNumbers → Option BoundString → ℕ → ℕ → Type 0
IsScanBounded table footer from old new =
    (most : ℕ) → HasBlockWithin table footer from most → new ≤ old + (bound_length table footer from + most + 192)

-- over files that stand for a map no search of a scan's beginning comes to damage: whatever it answers, its reads are
-- within their bound
abbrev pub ScansAreBounded : Type 0
ScansAreBounded =
    (files : Files) (generation : ℕ) (columns : Columns) (table : Table) (footer : FooterNumbers)
    (from : Option BoundString) (old new : ℕ)
    → StandFor files generation columns table → HasFooter columns (bytes_of files (partitions_id generation)) footer
    → AlwaysWithinScan (bytes_in columns files generation) footer from old new → (footer.partitions ≡ 0 → new ≤ old)
    → IsScanBounded (bytes_in columns files generation) footer from old new

-- ---- its next entries

-- over files that stand for a map a scan of a range begins near, so that each of its next entries takes few reads
abbrev pub ScansBeginNear : Type 0
ScansBeginNear =
    (files : Files) (generation : ℕ) (columns : Columns) (table : Table) (footer : FooterNumbers)
    (from to : Option BoundString) (scan : Scanning)
    → StandFor files generation columns table → HasFooter columns (bytes_of files (partitions_id generation)) footer
    → IsBound columns from → NamesSome from → Scans (bytes_in columns files generation) footer from to (Ok scan)
    → IsNear columns (bytes_of files (data_id generation)) scan
