-- What the cells of a node hold that has a path.
use Rattle.std.proofs.Common.{◌≡◌, ◌≢◌, ℕ, ◌+◌, ◌*◌, ◌/◌, ◌^◌, ◌<◌, List, length, slice_get, Some, refl, [], ◌∷◌, ◌++◌, arith}
use Rattle.std.specs.Prelude.{◌⊎◌}
use Rattle.cell_layout.specs.declared.Kind.TheVariants.{Content, Chain, Sparse, Wide, Prefix}
use Rattle.cell_layout.specs.Words.{byte_of}
use Rattle.cell_layout.specs.Pointers.{kind_at, record_cell}
use Rattle.cell_layout.specs.Slots.{slots_of, slot_at, IsSparse}
use Rattle.cell_layout.proofs.Added.{slot_small}
use Rattle.cell_layout.proofs.Ordered.{ordered}
use Rattle.trie_image.specs.declared.Owner.{Owner}
use Rattle.trie_image.specs.declared.Owner.TheVariants.{RecordCell, ChainCell, SparseCell, TopCell, MidCell, LeafCell, PrefixCell}
use Rattle.trie_image.specs.declared.Ledger.{Ledger}
use Rattle.trie_image.specs.Image.{word_of, field}
use Rattle.trie_image.specs.Paths.{owner, HasPath}
use Rattle.trie_image.specs.Cell.{IsChainCell, IsSparseCell, IsTopCell, IsMidCell, IsPrefixCell}
use Rattle.trie_image.specs.WellFormed.{IsWellFormed}
use Rattle.trie_image.proofs.Kept.{own_inside}
use Rattle.trie_image.proofs.Owners.{content_of, chain_of, sparse_of, split_node_of, prefix_of}
use Rattle.trie_image.proofs.Exits.{path_nonzero}
use Rattle.shard_freeze.specs.Edges.{HasSplitCells}

pub place_slot : (word place slot : ℕ) → IsSparse word → slice_get (slots_of word) place ≡ Some slot → slot < 6
place_slot word place slot sparse at = slot_small word (byte_of word slot) slot ((ordered word (byte_of word slot) slot sparse).1 (place, at, refl))

module _ (w : List ℕ) (g : Ledger) (cells : ℕ) (ok : IsWellFormed w g cells) where
  inside : (c : ℕ) (o : Owner) → owner g c ≡ Some o → 4 * c + 3 < length w
  inside c o e = omega (arith, own_inside g.owners c o e, ok.image.size, ok.image.capacity)

  cell_small : (c : ℕ) (o : Owner) → owner g c ≡ Some o → c < 2 ^ 27
  cell_small c o e = omega (arith, own_inside g.owners c o e, ok.image.small, ok.image.capacity)

  module _ (p : ℕ) (q : List ℕ) (at : HasPath g p q) where
    pub chain_inside : kind_at p ≡ Some Chain → 4 * (p / 32) + 3 < length w
    chain_inside k = let i = chain_of g p q at k in inside (p / 32) (ChainCell i.0 i.1) i.2

    pub chain_tail_there : kind_at p ≡ Some Chain → field w (p / 32) 7 ≢ 0
    chain_tail_there k = let i = chain_of g p q at k in let cell : IsChainCell w g (p / 32) i.0 i.1 = ok.image.each (p / 32) (ChainCell i.0 i.1) i.2 in path_nonzero g (field w (p / 32) 7) i.1 cell.tail

    pub sparse_inside : kind_at p ≡ Some Sparse → 4 * (p / 32) + 3 < length w
    sparse_inside k = inside (p / 32) (SparseCell q) (sparse_of g p q at k)

    sparse_cell : kind_at p ≡ Some Sparse → IsSparseCell w g (p / 32) q
    sparse_cell k = ok.image.each (p / 32) (SparseCell q) (sparse_of g p q at k)

    pub is_sparse : kind_at p ≡ Some Sparse → IsSparse (word_of w (p / 32) 3)
    is_sparse k = (sparse_cell k).sparse

    pub sparse_there : kind_at p ≡ Some Sparse → (b s : ℕ) → slot_at (word_of w (p / 32) 3) b ≡ Some s → field w (p / 32) s ≢ 0
    sparse_there k b s e = path_nonzero g (field w (p / 32) s) (q ++ b ∷ []) ((sparse_cell k).children b s e)

    pub split_cells : kind_at p ≡ Some Wide → HasSplitCells w (p / 32)
    split_cells k = let o = split_node_of g p q at k in let top : IsTopCell w g (p / 32) q = ok.image.each (p / 32) (TopCell q) o in record {
      small = cell_small (p / 32) (TopCell q) o;
      head = inside (p / 32) (TopCell q) o;
      mids = λ i less ne. inside (field w (p / 32) i / 32) (MidCell (p / 32) i) (top.mids i less ne);
      leaves = λ i j less few ne there.
          let m : ℕ = field w (p / 32) i / 32 in let mid : IsMidCell w g m (p / 32) i = ok.image.each m (MidCell (p / 32) i) (top.mids i less ne) in
          inside (field w m j / 32) (LeafCell (p / 32) i j) (mid.leaves j few there);
    }

    prefix_cell : kind_at p ≡ Some Prefix → IsPrefixCell w g (p / 32) q
    prefix_cell k = ok.image.each (p / 32) (PrefixCell q) (prefix_of g p q at k)

    pub prefix_inside : kind_at p ≡ Some Prefix → 4 * (p / 32) + 3 < length w
    prefix_inside k = inside (p / 32) (PrefixCell q) (prefix_of g p q at k)

    pub prefix_content : kind_at p ≡ Some Prefix → HasPath g (field w (p / 32) 0) q
    prefix_content k = (prefix_cell k).content

    pub prefix_is_content : kind_at p ≡ Some Prefix → kind_at (field w (p / 32) 0) ≡ Some Content
    prefix_is_content k = (prefix_cell k).is_content

    pub prefix_node : kind_at p ≡ Some Prefix → HasPath g (field w (p / 32) 1) q
    prefix_node k = (prefix_cell k).node

    pub prefix_is_node : kind_at p ≡ Some Prefix → (kind_at (field w (p / 32) 1) ≡ Some Chain) ⊎ ((kind_at (field w (p / 32) 1) ≡ Some Sparse) ⊎ (kind_at (field w (p / 32) 1) ≡ Some Wide))
    prefix_is_node k = (prefix_cell k).is_node

    pub content_inside : kind_at p ≡ Some Content → 4 * record_cell p + 3 < length w
    content_inside k = let i = content_of g p q at k in inside (record_cell p) (RecordCell i.0 0) i.2
