-- The path of each pointer that was ever reachable from the root: the bytes that lead to it. It is read off the owners of
-- the cells, so it stays when a node is replaced. This project's own.
use Rattle.std.specs.Prelude.{◌≡◌, ℕ, ◌+◌, ◌-◌, ◌/◌, ◌%◌, ◌≤◌, List, take, length, slice_get, Option, Some}
use Rattle.cell_layout.specs.declared.Kind.TheVariants.{Content, Chain, Sparse, Wide, Prefix}
use Rattle.cell_layout.specs.Pointers.{kind_at, record_cell}
use Rattle.trie_image.specs.declared.Put.{Put}
use Rattle.trie_image.specs.declared.Owner.{Owner}
use Rattle.trie_image.specs.declared.Owner.TheVariants.{RecordCell, ChainCell, SparseCell, TopCell, PrefixCell}
use Rattle.trie_image.specs.declared.Ledger.{Ledger}

-- whose the cell is; none for a cell that isn't taken
abbrev pub owner : Ledger → ℕ → Option Owner
owner g c = slice_get g.owners c

-- how many bytes of its tail's path a chain pointer with this offset has
abbrev pub chain_path : List ℕ → ℕ → List ℕ
chain_path t o = take (length t + o - 28) t

-- the pointer has the path: of its put's key for content, by the offset for a chain pointer, else of its cell
pub data HasPath (g : Ledger) (p : ℕ) (q : List ℕ) : Type 0 where
  at_content : (n : ℕ) (e : Put) → kind_at p ≡ Some Content → owner g (record_cell p) ≡ Some (RecordCell n 0) → slice_get g.puts n ≡ Some e → q ≡ e.key → HasPath g p q
  at_chain : (from : ℕ) (t : List ℕ) → kind_at p ≡ Some Chain → owner g (p / 32) ≡ Some (ChainCell from t) → from ≤ p % 32 → q ≡ chain_path t (p % 32) → HasPath g p q
  at_sparse : kind_at p ≡ Some Sparse → owner g (p / 32) ≡ Some (SparseCell q) → HasPath g p q
  at_split : kind_at p ≡ Some Wide → owner g (p / 32) ≡ Some (TopCell q) → HasPath g p q
  at_prefix : kind_at p ≡ Some Prefix → owner g (p / 32) ≡ Some (PrefixCell q) → HasPath g p q
