-- The index files of a table, as a function of the partitions that its Data.db lists.
use Rattle.std.specs.Prelude.{ℕ, ◌+◌, ℤ, pos, negsuc, List, [], ◌∷◌, ◌++◌, length, Option}
use Rattle.key_types.specs.declared.schema.ValueType.{ValueType}
use Rattle.data_file.specs.Listing.{Partition, partition_bytes}
use Rattle.partition_index.specs.Entries.{Numbered}
use Rattle.partition_index.specs.File.{partition_file}
use Rattle.partition_index.specs.Writing.{numbered}
use Rattle.row_index.specs.Entries.{Block, BlockList}
use Rattle.row_index.specs.File.{row_entry_at, row_file, rows_from}
use Rattle.table_files.specs.Blocks.{blocks_of}

-- ---- partitions with their positions

-- a partition that stands at a position of Data.db, with its blocks but the first
abbrev pub placed_at : Option ValueType → ℕ → Partition → BlockList
placed_at static at partition = record { string = partition.key; data_at = at; blocks = blocks_of static partition }

-- partitions one behind the other, from a position on
abbrev pub placed_from : Option ValueType → ℕ → List Partition → List BlockList
placed_from static at [] = []
placed_from static at (partition ∷ partitions) =
    placed_at static at partition ∷ placed_from static (at + length (partition_bytes static partition)) partitions

-- the partitions of a whole Data.db
abbrev pub placed : Option ValueType → List Partition → List BlockList
placed static partitions = placed_from static 0 partitions

-- ---- Rows.db

-- a partition has an entry there where it has blocks behind its first
abbrev pub row_indexed : BlockList → List Block → List BlockList
row_indexed partition [] = []
row_indexed partition (block ∷ blocks) = partition ∷ []

-- those of the partitions that have one
abbrev pub all_indexed : List BlockList → List BlockList
all_indexed [] = []
all_indexed (partition ∷ partitions) = row_indexed partition partition.blocks ++ all_indexed partitions

-- Rows.db of a table of these partitions
abbrev pub rows_file : Option ValueType → List Partition → List ℕ
rows_file static partitions = row_file (all_indexed (placed static partitions))

-- ---- Partitions.db

-- the number of a partition: the position of its entry in Rows.db, or, where it has one block, the complement of its
-- position in Data.db, which is negative; what Rows.db has of the partition begins at `at` there
abbrev pub number_at : BlockList → List Block → ℕ → ℤ
number_at partition [] at = negsuc partition.data_at
number_at partition (block ∷ blocks) at = pos (row_entry_at partition at)

-- the partitions with their numbers, where what Rows.db has of them begins at `at`
abbrev pub numbered_from : ℕ → List BlockList → List Numbered
numbered_from at [] = []
numbered_from at (partition ∷ partitions) =
    numbered partition.string (number_at partition partition.blocks at)
    ∷ numbered_from (at + length (rows_from at (row_indexed partition partition.blocks))) partitions

abbrev pub all_numbered : List BlockList → List Numbered
all_numbered partitions = numbered_from 0 partitions

-- Partitions.db of a table of these partitions
abbrev pub partitions_file : Option ValueType → List Partition → List ℕ
partitions_file static partitions = partition_file (all_numbered (placed static partitions))
