-- Where a pointer that a walk meets stands: the cell's owner and which of its fields it is, by the path of the pointer.
use Rattle.std.proofs.Common.{◌≡◌, ◌≢◌, ℕ, ◌/◌, ◌%◌, ◌<◌, List, [], ◌∷◌, ◌++◌, Some}
use Rattle.cell_layout.specs.declared.Kind.TheVariants.{Chain, Sparse, Wide, Prefix}
use Rattle.cell_layout.specs.Pointers.{kind_at}
use Rattle.cell_layout.specs.Slots.{slot_at}
use Rattle.trie_image.specs.declared.Owner.TheVariants.{ChainCell, SparseCell, TopCell, MidCell, LeafCell, PrefixCell}
use Rattle.trie_image.specs.declared.Ledger.{Ledger}
use Rattle.trie_image.specs.Image.{word_of, field, cell_byte, reading, root_of}
use Rattle.trie_image.specs.Paths.{owner, HasPath}
use Rattle.trie_image.proofs.Live.{Walks}

module _ (w : List ℕ) (g : Ledger) where
  -- the pointer is the node's own, or that of a prefix cell over the node
  pub data Over (y n : ℕ) : Type 0 where
    itself : y ≡ n → Over y n
    by_prefix : kind_at y ≡ Some Prefix → field w (y / 32) 1 ≡ n → Over y n

  -- from the root these bytes lead to the node, or to a prefix cell over it
  pub record Reaches (q : List ℕ) (n : ℕ) : Type 0 where
    pub last : ℕ
    pub walks : Walks (reading w) (root_of w) q last
    pub last_path : HasPath g last q
    pub over : Over last n
    pub node : HasPath g n q

  -- the pointer in a chain cell's tail
  pub record IsTail (q : List ℕ) (cell place : ℕ) : Type 0 where
    pub before : List ℕ
    pub byte : ℕ
    pub parent : ℕ
    pub whole : q ≡ before ++ byte ∷ []
    pub reached : Reaches before parent
    pub kind : kind_at parent ≡ Some Chain
    pub here : parent / 32 ≡ cell
    pub end : parent % 32 ≡ 27
    pub is_byte : cell_byte w (parent / 32) (parent % 32) ≡ byte
    pub from : ℕ
    pub own : owner g cell ≡ Some (ChainCell from q)
    pub is_place : place ≡ 7

  -- the pointer in a slot of a sparse cell that its order word names
  pub record IsSlot (q : List ℕ) (cell place : ℕ) : Type 0 where
    pub before : List ℕ
    pub byte : ℕ
    pub parent : ℕ
    pub whole : q ≡ before ++ byte ∷ []
    pub reached : Reaches before parent
    pub kind : kind_at parent ≡ Some Sparse
    pub here : parent / 32 ≡ cell
    pub own : owner g cell ≡ Some (SparseCell before)
    pub slot : slot_at (word_of w cell 3) byte ≡ Some place

  -- the mid cell of a split node's top cell t for a byte, and the leaf cell
  pub record IsMidUnder (t b cell : ℕ) : Type 0 where
    pub there : field w t (b / 64) ≢ 0
    pub here : field w t (b / 64) / 32 ≡ cell
    pub own : owner g cell ≡ Some (MidCell t (b / 64))

  pub record IsLeafUnder (t b cell : ℕ) : Type 0 where
    pub mid : ℕ
    pub is_mid : IsMidUnder t b mid
    pub there : field w mid (b / 8 % 8) ≢ 0
    pub here : field w mid (b / 8 % 8) / 32 ≡ cell
    pub own : owner g cell ≡ Some (LeafCell t (b / 64) (b / 8 % 8))

  -- the split node that the walk reached, whose byte comes next
  pub record IsSplitAt (before : List ℕ) (byte parent t : ℕ) : Type 0 where
    pub small : byte < 256
    pub reached : Reaches before parent
    pub kind : kind_at parent ≡ Some Wide
    pub here : parent / 32 ≡ t
    pub own : owner g t ≡ Some (TopCell before)

  -- the pointer, or 0, in a leaf cell
  pub record IsLeafSlot (q : List ℕ) (cell place : ℕ) : Type 0 where
    pub before : List ℕ
    pub byte : ℕ
    pub parent : ℕ
    pub top : ℕ
    pub whole : q ≡ before ++ byte ∷ []
    pub split : IsSplitAt before byte parent top
    pub leaf : IsLeafUnder top byte cell
    pub is_place : place ≡ byte % 8

  -- the prefix cell that the walk reached
  pub record IsOfPrefix (q : List ℕ) (cell : ℕ) : Type 0 where
    pub prefix : ℕ
    pub walks : Walks (reading w) (root_of w) q prefix
    pub path : HasPath g prefix q
    pub kind : kind_at prefix ≡ Some Prefix
    pub here : prefix / 32 ≡ cell
    pub own : owner g cell ≡ Some (PrefixCell q)

  -- a field that a walk comes to, by the path of its pointer: the root, which is field 2 of cell 0, a chain's tail, a
  -- sparse slot, a leaf cell's slot, and a prefix cell's content and node
  pub data Home (q : List ℕ) (cell place : ℕ) : Type 0 where
    root : q ≡ [] → cell ≡ 0 → place ≡ 2 → Home q cell place
    tail : IsTail q cell place → Home q cell place
    slot : IsSlot q cell place → Home q cell place
    leaf : IsLeafSlot q cell place → Home q cell place
    content : IsOfPrefix q cell → place ≡ 0 → Home q cell place
    node : IsOfPrefix q cell → place ≡ 1 → Home q cell place
