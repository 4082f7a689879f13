-- Paths stay when owners are added, and a pointer has one.
use Rattle.std.proofs.Common.{◌≡◌, ℕ, zero, suc, ◌/◌, ◌%◌, ◌≤◌, List, [], ◌∷◌, ◌++◌, slice_get, Some, sym, ap, ◌∙◌, subst}
use Rattle.cell_layout.specs.declared.Kind.TheVariants.{Content, Chain, Sparse, Wide, Prefix}
use Rattle.cell_layout.specs.Pointers.{kind_at, record_cell}
use Rattle.trie_image.specs.declared.Put.{Put}
use Rattle.trie_image.specs.declared.Owner.{Owner}
use Rattle.trie_image.specs.declared.Owner.TheVariants.{RecordCell, ChainCell, SparseCell, TopCell, PrefixCell}
use Rattle.trie_image.specs.declared.Ledger.{Ledger}
use Rattle.trie_image.specs.Paths.{owner, chain_path, HasPath, at_content, at_chain, at_sparse, at_split, at_prefix}

module _ {A : Type 0} where
  pub get_front : (l m : List A) (i : ℕ) (x : A) → slice_get l i ≡ Some x → slice_get (l ++ m) i ≡ Some x
  get_front [] m i x e = absurd (cc)
  get_front (y ∷ ys) m zero x e = e
  get_front (y ∷ ys) m (suc i) x e = get_front ys m i x e

-- owners and puts are only added at the end
abbrev pub grown : Ledger → List Owner → List Put → Ledger
grown g own hist = record { owners = g.owners ++ own; puts = g.puts ++ hist }

pub path_grown : (g : Ledger) (own : List Owner) (hist : List Put) (p : ℕ) (q : List ℕ) → HasPath g p q → HasPath (grown g own hist) p q
path_grown g own hist p q (at_content n e k o h s) = at_content n e k (get_front g.owners own (record_cell p) (RecordCell n 0) o) (get_front g.puts hist n e h) s
path_grown g own hist p q (at_chain from t k o h s) = at_chain from t k (get_front g.owners own (p / 32) (ChainCell from t) o) h s
path_grown g own hist p q (at_sparse k o) = at_sparse k (get_front g.owners own (p / 32) (SparseCell q) o)
path_grown g own hist p q (at_split k o) = at_split k (get_front g.owners own (p / 32) (TopCell q) o)
path_grown g own hist p q (at_prefix k o) = at_prefix k (get_front g.owners own (p / 32) (PrefixCell q) o)

-- what the kind of a pointer with a path tells of its cell's owner
pub content_of : (g : Ledger) (p : ℕ) (q : List ℕ) → HasPath g p q → kind_at p ≡ Some Content → (n : ℕ) × (e : Put) × (owner g (record_cell p) ≡ Some (RecordCell n 0)) × (slice_get g.puts n ≡ Some e) × (q ≡ e.key)
content_of g p q (at_content n e k o h s) is = (n, e, o, h, s)
content_of g p q (at_chain from t k o h s) is = absurd (cc)
content_of g p q (at_sparse k o) is = absurd (cc)
content_of g p q (at_split k o) is = absurd (cc)
content_of g p q (at_prefix k o) is = absurd (cc)

pub chain_of : (g : Ledger) (p : ℕ) (q : List ℕ) → HasPath g p q → kind_at p ≡ Some Chain → (from : ℕ) × (t : List ℕ) × (owner g (p / 32) ≡ Some (ChainCell from t)) × (from ≤ p % 32) × (q ≡ chain_path t (p % 32))
chain_of g p q (at_content n e k o h s) is = absurd (cc)
chain_of g p q (at_chain from t k o h s) is = (from, t, o, h, s)
chain_of g p q (at_sparse k o) is = absurd (cc)
chain_of g p q (at_split k o) is = absurd (cc)
chain_of g p q (at_prefix k o) is = absurd (cc)

pub sparse_of : (g : Ledger) (p : ℕ) (q : List ℕ) → HasPath g p q → kind_at p ≡ Some Sparse → owner g (p / 32) ≡ Some (SparseCell q)
sparse_of g p q (at_content n e k o h s) is = absurd (cc)
sparse_of g p q (at_chain from t k o h s) is = absurd (cc)
sparse_of g p q (at_sparse k o) is = o
sparse_of g p q (at_split k o) is = absurd (cc)
sparse_of g p q (at_prefix k o) is = absurd (cc)

pub split_node_of : (g : Ledger) (p : ℕ) (q : List ℕ) → HasPath g p q → kind_at p ≡ Some Wide → owner g (p / 32) ≡ Some (TopCell q)
split_node_of g p q (at_content n e k o h s) is = absurd (cc)
split_node_of g p q (at_chain from t k o h s) is = absurd (cc)
split_node_of g p q (at_sparse k o) is = absurd (cc)
split_node_of g p q (at_split k o) is = o
split_node_of g p q (at_prefix k o) is = absurd (cc)

pub prefix_of : (g : Ledger) (p : ℕ) (q : List ℕ) → HasPath g p q → kind_at p ≡ Some Prefix → owner g (p / 32) ≡ Some (PrefixCell q)
prefix_of g p q (at_content n e k o h s) is = absurd (cc)
prefix_of g p q (at_chain from t k o h s) is = absurd (cc)
prefix_of g p q (at_sparse k o) is = absurd (cc)
prefix_of g p q (at_split k o) is = absurd (cc)
prefix_of g p q (at_prefix k o) is = o

-- each pointer has at most one path
pub path_once : (g : Ledger) (p : ℕ) (q q' : List ℕ) → HasPath g p q → HasPath g p q' → q ≡ q'
path_once g p q q' (at_content n e k o h s) there = let i = content_of g p q' there k in let a : Some (RecordCell n 0) ≡ Some (RecordCell i.0 0) = sym o ∙ i.2 in let b : n ≡ i.0 = cc in let d : slice_get g.puts i.0 ≡ Some e = subst (λ (m : ℕ). slice_get g.puts m ≡ Some e) b h in let same : Some e ≡ Some i.1 = sym d ∙ i.3 in let f : e ≡ i.1 = cc in s ∙ (ap (λ (x : Put). x.key) f ∙ sym i.4)
path_once g p q q' (at_chain from t k o h s) there = let i = chain_of g p q' there k in let a : Some (ChainCell from t) ≡ Some (ChainCell i.0 i.1) = sym o ∙ i.2 in let b : t ≡ i.1 = cc in s ∙ (ap (λ (x : List ℕ). chain_path x (p % 32)) b ∙ sym i.4)
path_once g p q q' (at_sparse k o) there = let a : Some (SparseCell q) ≡ Some (SparseCell q') = sym o ∙ sparse_of g p q' there k in cc
path_once g p q q' (at_split k o) there = let a : Some (TopCell q) ≡ Some (TopCell q') = sym o ∙ split_node_of g p q' there k in cc
path_once g p q q' (at_prefix k o) there = let a : Some (PrefixCell q) ≡ Some (PrefixCell q') = sym o ∙ prefix_of g p q' there k in cc
