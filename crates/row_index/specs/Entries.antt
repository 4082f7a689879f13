-- The entries of a row index: the separators of a partition's blocks, with offsets (after the `Rows.db` of Cassandra's
-- BTI format; the separators of blocks are this project's own).
use Rattle.std.specs.Prelude.{◌≡◌, ℕ, ◌+◌, ◌<◌, ◌≤◌, ◌^◌, List, [], ◌∷◌, length, take, map}
use Rattle.std.specs.List.{AllByRecursion}
use Rattle.std.specs.declared.cmp.Ordering.TheVariants.{Less}
use Rattle.key_types.specs.Table.{string_cmp}
use Rattle.byte_order.specs.Strings.{IsSeparatorLength, separator_size}
use Rattle.bti_nodes.specs.Payloads.{unsigned_bytes}
use Rattle.page_packer.specs.Tree.{TrieEntry}

-- a block of a partition that is not its first: the clustering string of the row before it and of its first row, and
-- its offset from the partition's position in the data file
pub record Block : Type 0 where
  pub before : List ℕ
  pub first : List ℕ
  pub offset : ℕ

-- ---- what is indexed

-- the first row is above the one before, and seven bytes hold the offset
pub record IsBlock (b : Block) : Type 0 where
  pub bytes : AllByRecursion (λ x. x < 256) b.first
  pub above : string_cmp b.before b.first ≡ Less
  pub some : 0 < b.offset
  pub few : b.offset < 2 ^ 56

-- the row before the next block isn't below this block's first
abbrev pub IsBeforeNextBlock : List ℕ → List Block → Type 0
IsBeforeNextBlock first [] = Unit {0}
IsBeforeNextBlock first (b ∷ bs) = string_cmp b.before first ≡ Less → ⊥

abbrev pub AreBlocks : List Block → Type 0
AreBlocks [] = Unit {0}
AreBlocks (b ∷ bs) = IsBlock b × IsBeforeNextBlock b.first bs × AreBlocks bs

-- how many bytes the first strings of the blocks have together
abbrev pub block_bytes : List Block → ℕ
block_bytes [] = 0
block_bytes (b ∷ bs) = length b.first + block_bytes bs

-- a partition of two or more blocks: its string, its position in the data file, and its blocks but the first
pub record BlockList : Type 0 where
  pub string : List ℕ
  pub data_at : ℕ
  pub blocks : List Block

-- a string of at most 1,024 bytes, a position that eight bytes hold, and a block behind the first
pub record IsBlockList (p : BlockList) : Type 0 where
  pub most : length p.string ≤ 1024
  pub place : p.data_at < 2 ^ 64
  pub some : 0 < length p.blocks
  pub blocks : AreBlocks p.blocks

-- how many bytes the first strings of all blocks have together
abbrev pub all_block_bytes : List BlockList → ℕ
all_block_bytes [] = 0
all_block_bytes (p ∷ ps) = block_bytes p.blocks + all_block_bytes ps

pub record AreBlockLists (ps : List BlockList) : Type 0 where
  pub each : AllByRecursion IsBlockList ps
  pub few : all_block_bytes ps ≤ 2 ^ 30

-- ---- the index, in its own words

-- the entry's key is the shortest prefix of the block's first string that is above the string before the block, and its
-- payload spells the block's offset
pub record IsSeparator (b : Block) (e : TrieEntry) : Type 0 where
  pub size : ℕ
  pub shortest : IsSeparatorLength b.before b.first size
  pub key : e.key ≡ take size b.first
  pub payload : e.payload ≡ unsigned_bytes b.offset

-- one entry for each block, in order
abbrev pub IsRowIndex : List Block → List TrieEntry → Type 0
IsRowIndex [] [] = Unit {0}
IsRowIndex [] (e ∷ es) = ⊥
IsRowIndex (b ∷ bs) [] = ⊥
IsRowIndex (b ∷ bs) (e ∷ es) = IsSeparator b e × IsRowIndex bs es

-- ---- the same as a function

abbrev pub separator_entry : Block → TrieEntry
separator_entry b = record { key = take (separator_size b.before b.first) b.first; payload = unsigned_bytes b.offset }

abbrev pub separator_entries : List Block → List TrieEntry
separator_entries bs = map separator_entry bs
