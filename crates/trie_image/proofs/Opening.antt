-- The opening image is well formed.
use Rattle.std.proofs.Common.{◌≡◌, ℕ, zero, suc, ◌*◌, ◌/◌, ◌^◌, ◌≤◌, false, List, [], get_or, replicate, Some, refl, sym, ap, subst, arith}
use lib.ListN.{length-replicate}
use Rattle.cell_layout.specs.Words.{half_of}
use Rattle.cell_layout.specs.Pointers.{record_cell}
use Rattle.trie_image.specs.declared.Owner.{Owner}
use Rattle.trie_image.specs.declared.Owner.TheVariants.{HeadCell, RecordCell, ChainCell, SparseCell, TopCell, PrefixCell}
use Rattle.trie_image.specs.Image.{reading, root_of}
use Rattle.trie_image.specs.Paths.{owner, HasPath, at_content, at_chain, at_sparse, at_split, at_prefix}
use Rattle.trie_image.specs.Cell.{IsCell}
use Rattle.trie_image.specs.Puts.{MapsTo}
use Rattle.trie_image.specs.WellFormed.{IsWellFormed, opening_ledger}
use Rattle.trie_image.proofs.Readings.{sees_none}

zeros : (n i : ℕ) → ◌≡◌ {A = ℕ} (get_or (replicate n 0) i 0) 0
zeros zero i = refl
zeros (suc n) zero = refl
zeros (suc n) (suc i) = zeros n i

-- cell 0 is the only one with an owner
head_alone : (c : ℕ) (o : Owner) → owner opening_ledger c ≡ Some o → o ≡ HeadCell
head_alone zero o e = let is : HeadCell ≡ o = cc in sym is
head_alone (suc c) o e = absurd (cc)

first_cell : (w : List ℕ) (c : ℕ) (o : Owner) → owner opening_ledger c ≡ Some o → IsCell w opening_ledger c o
first_cell w zero o e = let is : HeadCell ≡ o = cc in subst (λ (x : Owner). IsCell w opening_ledger 0 x) is refl
first_cell w (suc c) o e = absurd (cc)

no_path : (p : ℕ) (q : List ℕ) → HasPath opening_ledger p q → ⊥
no_path p q (at_content n e k o h s) = let x = head_alone (record_cell p) (RecordCell n 0) o in cc
no_path p q (at_chain from t k o h s) = let x = head_alone (p / 32) (ChainCell from t) o in cc
no_path p q (at_sparse k o) = let x = head_alone (p / 32) (SparseCell q) o in cc
no_path p q (at_split k o) = let x = head_alone (p / 32) (TopCell q) o in cc
no_path p q (at_prefix k o) = let x = head_alone (p / 32) (PrefixCell q) o in cc

pub opening : (cells : ℕ) → 1 ≤ cells → cells ≤ 2 ^ 22 → IsWellFormed (replicate (4 * cells) 0) opening_ledger cells
opening cells some_ small = record {
  image = record {
    size = length-replicate (4 * cells) 0;
    capacity = some_;
    fewer = omega arith;
    small = small;
    head = refl;
    each = λ c o e. first_cell (replicate (4 * cells) 0) c o e;
    root = λ ne. absurd (ne root);
  };
  puts = record { records = λ n j put e l. absurd (cc); keys = λ n put e. absurd (cc); values = λ n put e. absurd (cc) };
  split = record {
    mids = λ c t i e. absurd (let x = head_alone c _ e in cc);
    tops = λ c t i e. absurd (let x = head_alone c _ e in cc);
    leaves = λ c t i j e. absurd (let x = head_alone c _ e in cc);
    children = λ c q e. absurd (let x = head_alone c _ e in cc);
  };
  paths = λ p q at. absurd (no_path p q at);
  map = λ key. subst (MapsTo [] key) (sym (sees_none (reading (replicate (4 * cells) 0)) (root_of (replicate (4 * cells) 0)) key root)) (λ m put e. absurd (cc));
}
  where
    root : root_of (replicate (4 * cells) 0) ≡ 0
    root = ap (λ (x : ℕ). half_of x false) (zeros (4 * cells) 1)
