-- What contracts see of a writer of a row index: the partitions that are finished, and the blocks of the one that is
-- not. A relation, since it holds no more than what is left of them.
use Rattle.std.specs.Prelude.{◌≡◌, ◌≤◌, ◌<◌, ◌+◌, ◌^◌, ℕ, List, [], ◌∷◌, ◌++◌, length, drop, Option, Result, OnOk}
use Rattle.std.specs.List.{AllByRecursion}
use Rattle.std.specs.declared.cmp.Ordering.TheVariants.{Less}
use Rattle.key_types.specs.Table.{string_cmp}
use Rattle.outside.specs.Files.{Files}
use Rattle.outside.specs.declared.store.FileId.{FileId}
use Rattle.page_packer.specs.Early.{early_of}
use Rattle.page_packer.specs.Packing.{AppendsSome, Packing}
use Rattle.page_packer.specs.Packs.{Packs}
use Rattle.row_index.specs.declared.writer.RowWriter.{RowWriter}
use Rattle.row_index.specs.Entries.{AreBlocks, Block, BlockList, IsBlockList, all_block_bytes, block_bytes, separator_entries}
use Rattle.row_index.specs.File.{row_entry_at, row_file}

-- a file, the partitions whose indexes stand in it, and the blocks of the one that is open
pub record RowIndexing : Type 0 where
  pub file : FileId
  pub done : List BlockList
  pub begun : List Block

abbrev pub no_rows : FileId → RowIndexing
no_rows file = record { file = file; done = []; begun = [] }

-- where the bytes of the open partition begin
abbrev pub begun_rows_at : RowIndexing → ℕ
begun_rows_at w = length (row_file w.done)

-- what stands in the file
abbrev pub early_rows : RowIndexing → List ℕ
early_rows w = row_file w.done ++ early_of (separator_entries w.begun) (begun_rows_at w)

-- the packing of the blocks that are open
abbrev pub begun_packing : RowIndexing → Packing
begun_packing w = record { file = w.file; start = begun_rows_at w; entries = separator_entries w.begun }

-- The writer was given these partitions and these blocks.
pub record WritesRowIndex (s : RowWriter) (w : RowIndexing) : Type 0 where
  pub file : s.file ≡ w.file
  pub packs : Packs s.packer (begun_packing w)
  pub done : AllByRecursion IsBlockList w.done
  pub fine : AreBlocks w.begun
  pub few : all_block_bytes w.done + block_bytes w.begun ≤ 2 ^ 30
  pub count : s.blocks ≡ length w.begun

-- ---- one block more

abbrev pub block_of : List ℕ → List ℕ → ℕ → Block
block_of before first offset = record { before = before; first = first; offset = offset }

-- the row before a block isn't below the first row of the last block, where there is one
abbrev pub IsBehindBlocks : List Block → List ℕ → Type 0
IsBehindBlocks [] before = Unit {0}
IsBehindBlocks (b ∷ []) before = string_cmp before b.first ≡ Less → ⊥
IsBehindBlocks (b ∷ c ∷ bs) before = IsBehindBlocks (c ∷ bs) before

-- the strings of all blocks have together at most 2^30 bytes with this one's
abbrev pub HasBlockRoom : RowIndexing → Block → Type 0
HasBlockRoom w b = all_block_bytes w.done + block_bytes w.begun + length b.first ≤ 2 ^ 30

-- The block goes behind what the writer was given: the row before it isn't below the first row of the last block, and
-- there is room.
pub record GoesBehind (s : RowWriter) (w : RowIndexing) (b : Block) : Type 0 where
  pub writes : WritesRowIndex s w
  pub behind : IsBehindBlocks w.begun b.before
  pub few : HasBlockRoom w b

-- a block may be added
abbrev pub TakesBlock : RowWriter → Block → Type 0
TakesBlock s b = (w : RowIndexing) × GoesBehind s w b

abbrev pub with_block : RowIndexing → Block → RowIndexing
with_block w b = record w { begun = w.begun ++ b ∷ [] }

-- what one block more appends
abbrev pub row_bytes_for : RowIndexing → Block → List ℕ
row_bytes_for w b = drop (length (early_rows w)) (early_rows (with_block w b))

-- At Ok the writer was given one block more, whatever it was given before; what stands early with that block stands in
-- the file then, and after an error a prefix of it.
pub record AddsBlock (old new : RowWriter) (before after : Option Files) {T E : Type 0} (result : Result T E)
    (b : Block) : Type 0 where
  pub writes : OnOk result ((w : RowIndexing) → GoesBehind old w b → WritesRowIndex new (with_block w b))
  pub appends : (w : RowIndexing) → WritesRowIndex old w → AppendsSome before after w.file result (row_bytes_for w b)

-- ---- the end of a partition

-- a block was added
abbrev pub HasBlocks : RowWriter → Type 0
HasBlocks s = (w : RowIndexing) × WritesRowIndex s w × (0 < length w.begun)

-- the open blocks as those of a partition
abbrev pub block_list : RowIndexing → List ℕ → ℕ → BlockList
block_list w string data_at = record { string = string; data_at = data_at; blocks = w.begun }

-- where the entry of the open partition is to stand
abbrev pub begun_entry_at : RowIndexing → ℕ
begun_entry_at w = row_entry_at (block_list w [] 0) (begun_rows_at w)

-- that partition is finished
abbrev pub with_finished : RowIndexing → List ℕ → ℕ → RowIndexing
with_finished w string data_at =
    record { file = w.file; done = w.done ++ block_list w string data_at ∷ []; begun = [] }

-- what ends a partition
abbrev pub last_row_bytes : RowIndexing → List ℕ → ℕ → List ℕ
last_row_bytes w string data_at = drop (length (early_rows w)) (row_file (w.done ++ block_list w string data_at ∷ []))

-- ---- the end of the file

-- no block was added behind the last partition that is finished
abbrev pub HasNoBlocks : RowWriter → Type 0
HasNoBlocks s = (w : RowIndexing) × WritesRowIndex s w × (w.begun ≡ [])
