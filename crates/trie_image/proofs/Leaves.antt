-- What the end of a walk tells, by the case that it meets.
use Rattle.std.proofs.Common.{◌≡◌, ◌≢◌, ◌⊎◌, ℕ, ◌+◌, ◌-◌, ◌/◌, ◌%◌, ◌<◌, ◌≤◌, List, [], ◌∷◌, ◌++◌, length, slice_index, Some, None}
use Rattle.cell_layout.specs.declared.Kind.TheVariants as kind
use Rattle.cell_layout.specs.Pointers.{kind_at}
use Rattle.cell_layout.specs.Slots.{slot_at, child_count}
use Rattle.trie_image.specs.declared.Owner.TheVariants.{PrefixCell}
use Rattle.trie_image.specs.declared.Ledger.{Ledger}
use Rattle.trie_image.specs.declared.exit.Stand.{Stand}
use Rattle.trie_image.specs.declared.exit.Meets.{Meets}
use Rattle.trie_image.specs.declared.exit.Meets.TheVariants.{Content, Nothing, OtherByte, End, Sparse, Full, NoLeaf, NoMid, PastContent}
use Rattle.trie_image.specs.declared.exit.Exit.{Exit}
use Rattle.trie_image.specs.Reading.{Reads}
use Rattle.trie_image.specs.Image.{word_of, field, cell_byte, reading}
use Rattle.trie_image.specs.Paths.{owner, HasPath}
use Rattle.trie_image.proofs.Homes.{Reaches, IsMidUnder, IsSplitAt, Home}

module _ (w : List ℕ) (g : Ledger) where
  -- the walk stands in a field whose pointer has path q, after the bytes m of the pointer's chain cell; path is all that
  -- was passed
  pub record StandsAt (q m path : List ℕ) (s : Stand) : Type 0 where
    pub held : field w s.cell s.field ≡ s.entered
    pub home : Home w g q s.cell s.field
    pub entered : s.entered ≢ 0 → HasPath g s.entered q
    pub reads : Reads (reading w) s.entered m s.at
    pub forward : s.at ≡ s.entered + length m
    pub offset : length m ≤ s.at % 32
    pub bytes : (i : ℕ) → i < length m → cell_byte w (s.at / 32) (s.at % 32 - length m + i) ≡ slice_index m i
    pub plain : (m ≡ []) ⊎ (kind_at s.at ≡ Some kind.Chain)
    pub passed : path ≡ q ++ m
    pub at_path : s.at ≢ 0 → HasPath g s.at path

  -- the key's content
  pub record MetContent (key : List ℕ) (s : Stand) : Type 0 where
    pub stands : StandsAt key [] key s
    pub is_content : kind_at s.at ≡ Some kind.Content

  -- a pointer 0, with these bytes left
  pub record MetNothing (key : List ℕ) (s : Stand) (taken : ℕ) : Type 0 where
    pub path : List ℕ
    pub rest : List ℕ
    pub whole : path ++ rest ≡ key
    pub so_far : taken ≡ length path
    pub stands : StandsAt path [] path s
    pub is_nothing : s.at ≡ 0

  -- another byte in a chain cell
  pub record MetOtherByte (key : List ℕ) (s : Stand) (taken : ℕ) : Type 0 where
    pub home_path : List ℕ
    pub inside : List ℕ
    pub path : List ℕ
    pub byte : ℕ
    pub rest : List ℕ
    pub whole : path ++ byte ∷ rest ≡ key
    pub so_far : taken ≡ length path
    pub stands : StandsAt home_path inside path s
    pub is_chain : kind_at s.at ≡ Some kind.Chain
    pub other : cell_byte w (s.at / 32) (s.at % 32) ≢ byte

  -- the key's end at a node or inside a chain cell
  pub record MetEnd (key : List ℕ) (s : Stand) : Type 0 where
    pub home_path : List ℕ
    pub inside : List ℕ
    pub stands : StandsAt home_path inside key s
    pub is_node : (kind_at s.at ≡ Some kind.Chain) ⊎ ((kind_at s.at ≡ Some kind.Sparse) ⊎ (kind_at s.at ≡ Some kind.Wide))
    pub bare : s.at ≡ s.entered → (r : List ℕ) → owner g s.cell ≡ Some (PrefixCell r) → ⊥

  -- a sparse node with room and without the byte
  pub record MetSparse (key : List ℕ) (s : Stand) (taken : ℕ) : Type 0 where
    pub path : List ℕ
    pub byte : ℕ
    pub rest : List ℕ
    pub whole : path ++ byte ∷ rest ≡ key
    pub so_far : taken ≡ length path
    pub reached : Reaches w g path s.at
    pub is_sparse : kind_at s.at ≡ Some kind.Sparse
    pub here : s.at / 32 ≡ s.cell
    pub absent : slot_at (word_of w s.cell 3) byte ≡ None
    pub capacity : child_count (word_of w s.cell 3) < 6

  -- a sparse node of six children, none under the byte
  pub record MetFull (key : List ℕ) (s : Stand) (taken : ℕ) : Type 0 where
    pub path : List ℕ
    pub byte : ℕ
    pub rest : List ℕ
    pub whole : path ++ byte ∷ rest ≡ key
    pub so_far : taken ≡ length path
    pub stands : StandsAt path [] path s
    pub is_sparse : kind_at s.at ≡ Some kind.Sparse
    pub absent : slot_at (word_of w (s.at / 32) 3) byte ≡ None
    pub full : child_count (word_of w (s.at / 32) 3) ≡ 6

  -- a split node without the byte's leaf cell, in the mid cell; without the mid cell, in the top cell
  pub record MetNoLeaf (key : List ℕ) (s : Stand) (taken : ℕ) : Type 0 where
    pub path : List ℕ
    pub byte : ℕ
    pub rest : List ℕ
    pub parent : ℕ
    pub top : ℕ
    pub whole : path ++ byte ∷ rest ≡ key
    pub so_far : taken ≡ length path
    pub split : IsSplitAt w g path byte parent top
    pub mid : IsMidUnder w g top byte s.cell
    pub place : s.field ≡ byte / 8 % 8
    pub absent : field w s.cell s.field ≡ 0

  pub record MetNoMid (key : List ℕ) (s : Stand) (taken : ℕ) : Type 0 where
    pub path : List ℕ
    pub byte : ℕ
    pub rest : List ℕ
    pub parent : ℕ
    pub whole : path ++ byte ∷ rest ≡ key
    pub so_far : taken ≡ length path
    pub split : IsSplitAt w g path byte parent s.cell
    pub place : s.field ≡ byte / 64
    pub absent : field w s.cell s.field ≡ 0

  -- a content pointer, with bytes of the key left
  pub record MetPastContent (key : List ℕ) (s : Stand) (taken : ℕ) : Type 0 where
    pub path : List ℕ
    pub byte : ℕ
    pub rest : List ℕ
    pub whole : path ++ byte ∷ rest ≡ key
    pub so_far : taken ≡ length path
    pub stands : StandsAt path [] path s
    pub is_content : kind_at s.at ≡ Some kind.Content
    pub no_prefix : (r : List ℕ) → owner g s.cell ≡ Some (PrefixCell r) → ⊥

  -- what a walk's end tells
  abbrev pub LeavesBy : List ℕ → Meets → Stand → ℕ → Type 0
  LeavesBy key Content s taken = MetContent key s
  LeavesBy key Nothing s taken = MetNothing key s taken
  LeavesBy key OtherByte s taken = MetOtherByte key s taken
  LeavesBy key End s taken = MetEnd key s
  LeavesBy key Sparse s taken = MetSparse key s taken
  LeavesBy key Full s taken = MetFull key s taken
  LeavesBy key NoLeaf s taken = MetNoLeaf key s taken
  LeavesBy key NoMid s taken = MetNoMid key s taken
  LeavesBy key PastContent s taken = MetPastContent key s taken

  abbrev pub Leaves : List ℕ → Exit → Type 0
  Leaves key e = LeavesBy key e.meets e.stand e.taken
