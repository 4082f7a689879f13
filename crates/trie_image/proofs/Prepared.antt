-- The stores before the publishing one change nothing that a pointer with a path reads.
use Rattle.std.proofs.Common.{◌≡◌, ℕ, zero, suc, ◌+◌, ◌*◌, ◌/◌, ◌%◌, ◌^◌, ◌<◌, ◌≤◌, ◌==◌, false, List, [], ◌∷◌, length, set, take, slice_index, Some, refl, ap, ◌∙◌, arith}
use Rattle.cell_layout.specs.Words.{half_of, with_half_of}
use Rattle.cell_layout.specs.Slots.{slot_at, child_count}
use Rattle.cell_layout.proofs.Added.{slot_is}
use Rattle.trie_image.specs.declared.Owner.{Owner}
use Rattle.trie_image.specs.declared.Owner.TheVariants.{HeadCell, RecordCell, ChainCell, SparseCell, TopCell, MidCell, LeafCell, PrefixCell}
use Rattle.trie_image.specs.declared.Ledger.{Ledger}
use Rattle.trie_image.specs.declared.StoreKind.TheVariants.{Prepare}
use Rattle.trie_image.specs.declared.WordStore.{WordStore}
use Rattle.trie_image.specs.Image.{word_of}
use Rattle.trie_image.specs.Paths.{owner}
use Rattle.trie_image.specs.Cell.{IsImage}
use Rattle.trie_image.specs.Same.{SameCell, IsSame}
use Rattle.trie_image.specs.Stores.{store_at, prepares}
use Rattle.trie_image.specs.After.{after}
use Rattle.trie_image.proofs.Kept.{own_inside, same_cell, free_slot}
use Rattle.trie_image.proofs.Stored.{length-prepared, before_prepared}

cell_trans : (w v u : List ℕ) (c : ℕ) (o : Owner) → SameCell w v c o → SameCell v u c o → SameCell w u c o
cell_trans w v u c HeadCell a b = b ∙ a
cell_trans w v u c (RecordCell n j) a b = λ i l. b i l ∙ a i l
cell_trans w v u c (ChainCell from t) a b = λ i l. b i l ∙ a i l
cell_trans w v u c (SparseCell q) a b = (b.0 ∙ a.0, λ x s e. b.1 x s (ap (λ (y : ℕ). slot_at y x) a.0 ∙ e) ∙ a.1 x s e)
cell_trans w v u c (TopCell q) a b = λ i l. b i l ∙ a i l
cell_trans w v u c (MidCell t i) a b = λ k l. b k l ∙ a k l
cell_trans w v u c (LeafCell t i j) a b = λ k l. b k l ∙ a k l
cell_trans w v u c (PrefixCell q) a b = λ i l. b i l ∙ a i l

pub same_trans : (w v u : List ℕ) (g : Ledger) → IsSame w v g → IsSame v u g → IsSame w u g
same_trans w v u g a b = record { size = b.size ∙ a.size; cells = λ c o e. cell_trans w v u c o (a.cells c o e) (b.cells c o e) }

-- where the words of all cells taken are as they were
pub same_below : (w v : List ℕ) (g : Ledger) → length v ≡ length w → owner g 0 ≡ Some HeadCell → ((i : ℕ) → i < 4 * length g.owners → slice_index v i ≡ slice_index w i) → IsSame w v g
same_below w v g long head below = record {
  size = long;
  cells = λ c o e. let l : c < length g.owners = own_inside g.owners c o e in let first : 0 < length g.owners = own_inside g.owners 0 HeadCell head in
      same_cell w v c o (ap (λ (x : ℕ). half_of x false) (below 1 (omega arith))) (λ ne i s. below (4 * c + i) (omega arith));
}

-- so after stores into new cells
pub same_prepared : (w : List ℕ) (g : Ledger) (at : ℕ) (ws : List ℕ) → owner g 0 ≡ Some HeadCell → 4 * length g.owners ≤ at → IsSame w (after w (prepares at ws)) g
same_prepared w g at ws head far = same_below w (after w (prepares at ws)) g (length-prepared w at ws) head (λ i l. before_prepared w at i ws (omega arith))

-- and after some of them
pub prepares_taken : (n at : ℕ) (ws : List ℕ) → take n (prepares at ws) ≡ prepares at (take n ws)
prepares_taken zero at ws = refl
prepares_taken (suc n) at [] = refl
prepares_taken (suc n) at (x ∷ ws) = ap (λ (l : List WordStore). store_at at x Prepare ∷ l) (prepares_taken n (at + 1) ws)

-- the slot after the taken ones of a sparse cell is free
pub free_next : (w : List ℕ) (g : Ledger) (cells c p : ℕ) (q : List ℕ) → IsImage w g cells → owner g c ≡ Some (SparseCell q) → child_count (word_of w c 3) < 6 → p < 2 ^ 32
    → IsSame w (set w (4 * c + child_count (word_of w c 3) / 2) (with_half_of (word_of w c (child_count (word_of w c 3) / 2)) (child_count (word_of w c 3) % 2 == 1) p)) g
free_next w g cells c p q ok own few fits = free_slot w g cells c (child_count (word_of w c 3)) p q ok own few (λ b e. let l = slot_is (word_of w c 3) b (child_count (word_of w c 3)) e in omega (arith, l.1)) fits
