-- What is held of the open partition: only private contracts cite it.
use Rattle.std.specs.Prelude.{ℕ, ℤ, Bool, true, false, ◌&&◌, List, [], ◌∷◌, ◌++◌, length, if◌then◌else◌}
use Rattle.data_file.specs.Listing.{Partition, data_bytes}
use Rattle.row_index.specs.Entries.{Block}
use Rattle.row_index.specs.File.{row_file}
use Rattle.row_index.specs.Writing.{block_of}
use Rattle.table_files.specs.Blocks.{blocks_of, ends_block}
use Rattle.table_files.specs.Indexes.{all_indexed, number_at, placed, placed_at}
use Rattle.flush_walk.specs.declared.current.CurrentPartition.{CurrentPartition}
use Rattle.flush_walk.specs.Entries.{has_some}
use Rattle.flush_walk.specs.Given.{Flushing, growing_of, opened, turned}
use Rattle.flush_walk.specs.Growing.{Growing}

-- a row behind this offset begins a block: one stands before it, and ends the last block
abbrev pub begins_block : CurrentPartition → ℕ → Bool
begins_block s end_ = has_some s.last && ends_block s.start end_

-- a partition that was opened at a position, with its first entry
abbrev pub current_of : List ℕ → List ℕ → ℕ → CurrentPartition
current_of partition clustering position =
    record { is_open = true; key = partition; position = position; last = clustering; start = 0; indexed = false }

-- the block that begins with such a row, where one does
abbrev pub blocks_next : CurrentPartition → List ℕ → ℕ → List Block
blocks_next s first end_ = if begins_block s end_ then block_of s.last first end_ ∷ [] else []

abbrev pub with_block_at : CurrentPartition → ℕ → CurrentPartition
with_block_at s end_ = if begins_block s end_ then record s { start = end_; indexed = true } else s

-- with more blocks of the open partition
abbrev pub with_blocks : Growing → List Block → Growing
with_blocks t bs = record t { rows = record t.rows { begun = t.rows.begun ++ bs } }

-- the open partition has ended in the row index
abbrev pub rows_turned : Flushing → Partition → Growing
rows_turned v p = record (growing_of (opened v p)) { rows = (growing_of (turned (opened v p))).rows }

-- its number in the partition index
abbrev pub number_turned : Flushing → Partition → ℤ
number_turned v p =
    let static = v.columns.static_value in
    number_at (placed_at static (length (data_bytes static v.closed)) p) (blocks_of static p)
    (length (row_file (all_indexed (placed static v.closed))))
