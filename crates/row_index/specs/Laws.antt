-- What holds of the row index of every list of partitions.
use Rattle.std.specs.Prelude.{◌≡◌, ◌<◌, ◌^◌, ℕ, List, [], ◌∷◌, ◌++◌, length, drop}
use Rattle.bti_nodes.specs.Trie.{paths}
use Rattle.page_packer.specs.Early.{IsBeginning}
use Rattle.page_packer.specs.Reading.{AreThese}
use Rattle.row_index.specs.Entries.{AreBlocks, AreBlockLists, Block, BlockList, IsRowIndex, separator_entries}
use Rattle.row_index.specs.File.{row_entry, row_entry_at, row_file, row_trie}
use Rattle.row_index.specs.Writing.{RowIndexing, early_rows, last_row_bytes, row_bytes_for, with_block, with_finished}

-- The entries are the row index: each key is the shortest separator.
abbrev pub EntriesAreRowIndex : Type 0
EntriesAreRowIndex = (bs : List Block) → AreBlocks bs → IsRowIndex bs (separator_entries bs)

-- a partition whose bytes begin at a position of the file: its entry stands behind its trie, and the root that the
-- entry names means exactly the separators of its blocks, with offsets
pub record StandsInRows (file : List ℕ) (p : BlockList) (at : ℕ) : Type 0 where
  pub entry : (rest : List ℕ) × (drop (row_entry_at p at) file ≡ row_entry p (row_trie p at).root ++ rest)
  pub means : AreThese (paths file (row_trie p at).root) (separator_entries p.blocks)
  pub root : (row_trie p at).root < row_entry_at p at
  pub few : length p.blocks < 2 ^ 31

-- Each partition stands in the file, whatever partitions follow it.
abbrev pub EachStandsInRows : Type 0
EachStandsInRows =
    (before : List BlockList) (p : BlockList) (more : List BlockList) → AreBlockLists (before ++ p ∷ more)
    → StandsInRows (row_file (before ++ p ∷ more)) p (length (row_file before))

-- the open blocks are the first ones of the next partition, or there are none
abbrev pub IsBegunFile : List Block → List BlockList → Type 0
IsBegunFile [] more = Unit {0}
IsBegunFile (b ∷ bs) [] = ⊥
IsBegunFile (b ∷ bs) (p ∷ more) = (rest : List Block) × (p.blocks ≡ (b ∷ bs) ++ rest)

-- What stands early is a prefix of the file of every list of partitions that goes on from there.
abbrev pub EarlyRowsStand : Type 0
EarlyRowsStand = (w : RowIndexing) (more : List BlockList) → AreBlockLists (w.done ++ more) → IsBegunFile w.begun more
    → IsBeginning (early_rows w) (row_file (w.done ++ more))

-- Each block appends the rest of what stands early with it, and the end of a partition the rest of its bytes.
abbrev pub EarlyRowsGrow : Type 0
EarlyRowsGrow = (w : RowIndexing) (b : Block) → AreBlocks (w.begun ++ b ∷ [])
    → early_rows (with_block w b) ≡ early_rows w ++ row_bytes_for w b

abbrev pub PartitionEnds : Type 0
PartitionEnds = (w : RowIndexing) (string : List ℕ) (data_at : ℕ) → AreBlocks w.begun
    → early_rows (with_finished w string data_at) ≡ early_rows w ++ last_row_bytes w string data_at

-- The file is short, so each position in it fits six bytes.
abbrev pub RowsAreShort : Type 0
RowsAreShort = (ps : List BlockList) → AreBlockLists ps → length (row_file ps) < 2 ^ 41
