-- What it means that the checks find nothing, and what they find where nothing is wrong.
use Rattle.std.specs.Prelude.{ℕ, List, map, Result, Ok, Err, ⊤}
use Rattle.bti_nodes.specs.Trie.{Paths, paths}
use Rattle.data_file.specs.Listing.{Lists, Partition}
use Rattle.key_types.specs.Columns.{Columns}
use Rattle.row_index.specs.Entries.{BlockList}
use Rattle.table_files.specs.Blocks.{blocks_of}
use Rattle.table_files.specs.IndexMeaning.{MeansBlocks}
use Rattle.table_files.specs.Indexes.{placed}
use Rattle.table_files.specs.Standing.{RowsAscend, StringsAscend}
use Rattle.data_walk.specs.declared.refusal.Refusal.{Refusal}
use Rattle.data_walk.specs.Ahead.{PartitionAhead}
use Rattle.data_walk.specs.DataWalk.{place_at}
use Rattle.data_walk.specs.Refusals.{IsFault}
use Rattle.row_check.specs.Blocks.{ChecksBlocks}
use Rattle.row_check.specs.Entries.{ChecksEntries, EntriesAre}

-- where nothing was found, the fact holds; and where it holds, nothing was found but a fault
abbrev pub Judges : Type 0 → Result ⊤ Refusal → Type 0
Judges fact (Ok done) = fact
Judges fact (Err e) = fact → IsFault e

-- where a partition stands at a position of Data.db, the check of its blocks judges that a row index is theirs
abbrev pub BlocksAreJudged : Type 0
BlocksAreJudged = (columns : Columns) (entries rows : List ℕ) (position root : ℕ) (partition : Partition)
    (result : Result ⊤ Refusal)
    → PartitionAhead columns entries (place_at position) partition
    → ChecksBlocks columns entries rows position root result
    → Judges (MeansBlocks (blocks_of columns.static_value partition) (paths rows root)) result

-- the paths of Partitions.db are there, and each leads to the entry of its partition, where it has one
abbrev pub MeansEntries : List ℕ → List BlockList → Paths → Type 0
MeansEntries rows partitions (Err wrong) = ⊥
MeansEntries rows partitions (Ok found) = EntriesAre rows partitions found

-- where Data.db lists partitions that ascend, the check of entries judges that the paths of Partitions.db lead to them
abbrev pub EntriesAreJudged : Type 0
EntriesAreJudged = (columns : Columns) (entries rows index : List ℕ) (root : ℕ) (partitions : List Partition)
    (result : Result ⊤ Refusal)
    → Lists columns entries partitions → StringsAscend (map (λ partition. partition.key) partitions)
    → RowsAscend partitions
    → ChecksEntries columns entries rows index root result
    → Judges (MeansEntries rows (placed columns.static_value partitions) (paths index root)) result
