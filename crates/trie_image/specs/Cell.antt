-- What each cell holds, by its owner. After the node types of Apache Cassandra's InMemoryTrie.md; records and the layout
-- of cells are this project's own.
use Rattle.std.specs.Prelude.{◌≡◌, ◌≢◌, ◌⊎◌, ℕ, zero, suc, ◌+◌, ◌-◌, ◌*◌, ◌/◌, ◌^◌, ◌<◌, ◌≤◌, List, [], ◌∷◌, ◌++◌, length, take, drop, slice_index, slice_get, Some}
use Rattle.cell_layout.specs.Cells.{record_cells, record_word}
use Rattle.cell_layout.specs.declared.Kind.TheVariants.{Content, Chain, Sparse, Wide}
use Rattle.cell_layout.specs.Pointers.{kind_at}
use Rattle.cell_layout.specs.Slots.{slot_at, IsSparse}
use Rattle.trie_image.specs.declared.Put.{Put}
use Rattle.trie_image.specs.declared.Owner.{Owner}
use Rattle.trie_image.specs.declared.Owner.TheVariants.{HeadCell, RecordCell, ChainCell, SparseCell, TopCell, MidCell, LeafCell, PrefixCell}
use Rattle.trie_image.specs.declared.Ledger.{Ledger}
use Rattle.trie_image.specs.Image.{word_of, field, cell_byte, root_of}
use Rattle.trie_image.specs.Paths.{owner, HasPath}

module _ (w : List ℕ) (g : Ledger) (c : ℕ) where
  -- the bytes from the offset at which the cell was entered on are the end of its tail's path
  pub record IsChainCell (from : ℕ) (t : List ℕ) : Type 0 where
    pub entered : from ≤ 27
    pub long : 28 - from ≤ length t
    pub bytes : (o : ℕ) → from ≤ o → o ≤ 27 → cell_byte w c o ≡ slice_index t (length t + o - 28)
    pub tail : HasPath g (field w c 7) t

  -- a node that the layout allows, each child with the node's path and its byte
  pub record IsSparseCell (q : List ℕ) : Type 0 where
    pub sparse : IsSparse (word_of w c 3)
    pub children : (b s : ℕ) → slot_at (word_of w c 3) b ≡ Some s → HasPath g (field w c s) (q ++ b ∷ [])

  -- each pointer of a split node's top cell leads to its mid cell of that index
  pub record IsTopCell (q : List ℕ) : Type 0 where
    pub mids : (i : ℕ) → i < 4 → field w c i ≢ 0 → owner g (field w c i / 32) ≡ Some (MidCell c i)
    pub wide : (i : ℕ) → i < 4 → field w c i ≢ 0 → kind_at (field w c i) ≡ Some Wide
    pub rest : (word_of w c 2 ≡ 0) × (word_of w c 3 ≡ 0)

  -- each pointer of a mid cell leads to its node's leaf cell of these indices
  pub record IsMidCell (t i : ℕ) : Type 0 where
    pub leaves : (j : ℕ) → j < 8 → field w c j ≢ 0 → owner g (field w c j / 32) ≡ Some (LeafCell t i j)
    pub wide : (j : ℕ) → j < 8 → field w c j ≢ 0 → kind_at (field w c j) ≡ Some Wide

  -- each child in a leaf cell has the node's path and the byte of its indices
  pub record IsLeafCell (t i j : ℕ) : Type 0 where
    pub children : (n : ℕ) (q : List ℕ) → n < 8 → field w c n ≢ 0 → owner g t ≡ Some (TopCell q) → HasPath g (field w c n) (q ++ (64 * i + 8 * j + n) ∷ [])
    pub small : (i < 4) × (j < 8)
    pub top : List ℕ
    pub is_top : owner g t ≡ Some (TopCell top)

  -- content and the pointer of a chain, a sparse or a split node, both with the cell's path
  pub record IsPrefixCell (q : List ℕ) : Type 0 where
    pub content : HasPath g (field w c 0) q
    pub is_content : kind_at (field w c 0) ≡ Some Content
    pub node : HasPath g (field w c 1) q
    pub is_node : (kind_at (field w c 1) ≡ Some Chain) ⊎ ((kind_at (field w c 1) ≡ Some Sparse) ⊎ (kind_at (field w c 1) ≡ Some Wide))

  -- cell j of the record of put n, both from 0
  pub record IsRecordCell (n j : ℕ) (put : Put) : Type 0 where
    pub place : c ≡ put.cell + j
    pub inside : j < record_cells (length put.value)
    pub words : (i : ℕ) → i < 4 → word_of w c i ≡ record_word (n + 1) put.value (4 * j + i)

  -- the cell is what its owner says
  abbrev pub IsCell : Owner → Type 0
  IsCell HeadCell = c ≡ 0
  IsCell (RecordCell n j) = (put : Put) × (slice_get g.puts n ≡ Some put) × IsRecordCell n j put
  IsCell (ChainCell from t) = IsChainCell from t
  IsCell (SparseCell q) = IsSparseCell q
  IsCell (TopCell q) = IsTopCell q
  IsCell (MidCell t i) = IsMidCell t i
  IsCell (LeafCell t i j) = IsLeafCell t i j
  IsCell (PrefixCell q) = IsPrefixCell q

-- an image of so many cells whose cells below `used`, the number of owners, are what their owners say
pub record IsImage (w : List ℕ) (g : Ledger) (cells : ℕ) : Type 0 where
  pub size : length w ≡ 4 * cells
  pub capacity : length g.owners ≤ cells
  pub fewer : length g.puts < length g.owners
  pub small : cells ≤ 2 ^ 22
  pub head : owner g 0 ≡ Some HeadCell
  pub each : (c : ℕ) (o : Owner) → owner g c ≡ Some o → IsCell w g c o
  pub root : root_of w ≢ 0 → HasPath g (root_of w) []
