-- The blocks of a partition in Data.db, which the row index names. The rule of blocks is this project's own.
use Rattle.std.specs.Prelude.{ℕ, ◌+◌, Bool, List, [], ◌∷◌, ◌++◌, length, if◌then◌else◌, nat_le, Option}
use Rattle.key_types.specs.declared.schema.ValueType.{ValueType}
use Rattle.data_file.specs.Listing.{Partition, Row, head_bytes, row_bytes, static_part_bytes}
use Rattle.row_index.specs.Entries.{Block}
use Rattle.row_index.specs.Writing.{block_of}

-- a block ends with the first row whose end is so many bytes or more past the block's start
abbrev pub block_size : ℕ
block_size = 16384

-- a block that began at `start` ends with the row that ends at `end_`
abbrev pub ends_block : ℕ → ℕ → Bool
ends_block start end_ = nat_le (start + block_size) end_

-- where the block begins that a row behind `end_` is in: there, where the block from `start` ends there
abbrev pub block_start : ℕ → ℕ → ℕ
block_start start end_ = if ends_block start end_ then end_ else start

-- the block that begins with such a row, where one does
abbrev pub block_begun : ℕ → List ℕ → ℕ → List ℕ → List Block
block_begun start before end_ first = if ends_block start end_ then block_of before first end_ ∷ [] else []

-- The blocks that begin with one of these rows. They stand behind a row of this clustering, which ends at `end_` and is
-- in the block that begins at `start`.
abbrev pub blocks_behind : ℕ → List ℕ → ℕ → List Row → List Block
blocks_behind start before end_ [] = []
blocks_behind start before end_ (row ∷ rows) =
    block_begun start before end_ row.clustering
    ++ blocks_behind (block_start start end_) row.clustering (end_ + length (row_bytes row.clustering row.value)) rows

-- the same of the rows of a partition, which begin at `at` and of which the first is in the partition's first block
abbrev pub blocks_among : ℕ → List Row → List Block
blocks_among at [] = []
blocks_among at (row ∷ rows) = blocks_behind 0 row.clustering (at + length (row_bytes row.clustering row.value)) rows

-- where the rows of a partition begin: behind the head and the static part
abbrev pub rows_at : Option ValueType → Partition → ℕ
rows_at static partition = length (head_bytes partition.key ++ static_part_bytes static partition.static_part)

-- The blocks of a partition but its first, which starts at the partition's position. Offsets count from there.
abbrev pub blocks_of : Option ValueType → Partition → List Block
blocks_of static partition = blocks_among (rows_at static partition) partition.rows
