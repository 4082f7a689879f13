-- The new chain of a put: its cells are chain cells, and its entry has the path after which it begins.
use Rattle.std.proofs.Common.{◌≡◌, ℕ, zero, suc, ◌+◌, ◌-◌, ◌*◌, ◌/◌, ◌%◌, ◌^◌, ◌<◌, ◌≤◌, true, List, [], ◌∷◌, ◌++◌, length, take, drop, slice_index, slice_get, Some, refl, sym, ap, ◌∙◌, subst, arith, length-append, ⊎_elim, append_assoc}
use Rattle.std.proofs.lemmas.List.{get_or-append-add, length-take-le, length-drop, take-append-drop}
use Rattle.std.proofs.Math.Seq.{take-append_seam}
use Rattle.cell_layout.specs.Words.{half_of, byte_of, ItemsAreBytes}
use Rattle.cell_layout.proofs.PointerKinds.{is_chain}
use Rattle.cell_layout.specs.Cells.{chain_cell, padded, chain_from, next_cell}
use Rattle.cell_layout.proofs.CellBytes.{bytes_taken, bytes_dropped, byte_of_chain_cell, tail_of_chain_cell, bytes_padded, padded_byte}
use Rattle.trie_image.specs.declared.Owner.{Owner}
use Rattle.trie_image.specs.declared.Owner.TheVariants.{ChainCell}
use Rattle.trie_image.specs.declared.Ledger.{Ledger}
use Rattle.trie_image.specs.Paths.{owner, HasPath, at_chain}
use Rattle.trie_image.specs.Cell.{IsChainCell, IsCell}
use Rattle.trie_image.proofs.Grown.{get_either}
use Rattle.trie_image.proofs.Owners.{get_front}
use Rattle.trie_image.proofs.CellWords.{Stands, stands_front, stands_back}

-- the cells from a cell on have these owners, and are what these owners say
abbrev pub Owns : Ledger → ℕ → List Owner → Type 0
Owns g c os = (j : ℕ) (o : Owner) → slice_get os j ≡ Some o → owner g (c + j) ≡ Some o

abbrev pub AreCells : List ℕ → Ledger → ℕ → List Owner → Type 0
AreCells w g c os = (j : ℕ) (o : Owner) → slice_get os j ≡ Some o → IsCell w g (c + j) o

pub get_back : {A : Type 0} (l m : List A) (i : ℕ) (x : A) → slice_get m i ≡ Some x → slice_get (l ++ m) (length l + i) ≡ Some x
get_back [] m i x e = let z : 0 + i ≡ i = omega arith in subst (λ (k : ℕ). slice_get m k ≡ Some x) (sym z) e
get_back (y ∷ ys) m i x e = let z : suc (length ys) + i ≡ suc (length ys + i) = omega arith in subst (λ (k : ℕ). slice_get (y ∷ ys ++ m) k ≡ Some x) (sym z) (get_back ys m i x e)

pub owns_front : (g : Ledger) (c : ℕ) (a b : List Owner) → Owns g c (a ++ b) → Owns g c a
owns_front g c a b h j o e = h j o (get_front a b j o e)

pub owns_back : (g : Ledger) (c d : ℕ) (a b : List Owner) → d ≡ c + length a → Owns g c (a ++ b) → Owns g d b
owns_back g c d a b is h j o e = let z : c + (length a + j) ≡ d + j = omega arith in subst (λ (x : ℕ). owner g x ≡ Some o) z (h (length a + j) o (get_back a b j o e))

pub cells_joined : (w : List ℕ) (g : Ledger) (c d : ℕ) (a b : List Owner) → d ≡ c + length a → AreCells w g c a → AreCells w g d b → AreCells w g c (a ++ b)
cells_joined w g c d a b is h k j o e = ⊎_elim (λ (t : slice_get a j ≡ Some o). h j o t)
    (λ (t : (i : ℕ) × (j ≡ length a + i) × (slice_get b i ≡ Some o)). let z : d + t.0 ≡ c + j = omega (arith, t.1) in subst (λ (x : ℕ). IsCell w g x o) z (k t.0 o t.2)) (get_either a b j o e)

-- one cell alone
pub cell_alone : (w : List ℕ) (g : Ledger) (c : ℕ) (o : Owner) → IsCell w g c o → AreCells w g c (o ∷ [])
cell_alone w g c o h zero x e = let is : o ≡ x = cc in let z : c + 0 ≡ c = omega arith in subst (λ (y : Owner). IsCell w g (c + 0) y) is (subst (λ (y : ℕ). IsCell w g y o) (sym z) h)
cell_alone w g c o h (suc j) x e = absurd (cc)

pub owner_first : (g : Ledger) (c : ℕ) (o : Owner) (os : List Owner) → Owns g c (o ∷ os) → owner g c ≡ Some o
owner_first g c o os h = let z : c + 0 ≡ c = omega arith in subst (λ (x : ℕ). owner g x ≡ Some o) z (h 0 o refl)

pub owner_second : (g : Ledger) (c : ℕ) (o x : Owner) → Owns g c (o ∷ x ∷ []) → owner g (c + 1) ≡ Some x
owner_second g c o x h = h 1 x refl

-- the owners of the cells of a chain that takes the bytes after the path q
abbrev pub chain_owners : ℕ → List ℕ → List ℕ → List Owner
chain_owners zero q bytes = []
chain_owners (suc n) q bytes = ChainCell (28 - length (take (length bytes - 28 * n) bytes)) (q ++ take (length bytes - 28 * n) bytes) ∷ chain_owners n (q ++ take (length bytes - 28 * n) bytes) (drop (length bytes - 28 * n) bytes)

pub length_chain_owners : (n : ℕ) (q bytes : List ℕ) → length (chain_owners n q bytes) ≡ n
length_chain_owners zero q bytes = refl
length_chain_owners (suc n) q bytes = ap (λ (x : ℕ). suc x) (length_chain_owners n (q ++ take (length bytes - 28 * n) bytes) (drop (length bytes - 28 * n) bytes))

-- a chain cell whose last bytes these are, and whose tail has the path after them
pub chain_is : (w : List ℕ) (g : Ledger) (c : ℕ) (q bytes : List ℕ) (next : ℕ) → Stands w c (chain_cell (padded bytes) next) → 1 ≤ length bytes → length bytes ≤ 28 → ItemsAreBytes bytes → HasPath g next (q ++ bytes) → IsChainCell w g c (28 - length bytes) (q ++ bytes)
chain_is w g c q bytes next h some_ few small at = record {
  entered = omega arith;
  long = omega (arith, length-append q bytes);
  bytes = λ o lo hi. let four : length (chain_cell (padded bytes) next) ≡ 4 = refl in
      let index : length (q ++ bytes) + o - 28 ≡ length q + (o + length bytes - 28) = omega (arith, length-append q bytes) in
      ap (λ (x : ℕ). byte_of x (o % 8)) (h (o / 8) (omega arith)) ∙ (byte_of_chain_cell (padded bytes) next (bytes_padded bytes small) o hi ∙ (padded_byte bytes o hi (omega arith)
      ∙ sym (ap (λ (x : ℕ). slice_index (q ++ bytes) x) index ∙ get_or-append-add q bytes (o + length bytes - 28) 0)));
  tail = subst (λ (x : ℕ). HasPath g x (q ++ bytes)) (sym (ap (λ (x : ℕ). half_of x true) (h 3 (omega arith)) ∙ tail_of_chain_cell (padded bytes) next (bytes_padded bytes small))) at;
}

-- the pointer to the byte of a chain cell with so many bytes after the path q
pub enters_path : (g : Ledger) (p c : ℕ) (q bytes : List ℕ) → owner g c ≡ Some (ChainCell (28 - length bytes) (q ++ bytes)) → 1 ≤ length bytes → length bytes ≤ 28 → 1 ≤ c → c < 2 ^ 26 → p ≡ 32 * c + (28 - length bytes) → HasPath g p q
enters_path g p c q bytes own some_ few low high is = let cell : p / 32 ≡ c = omega arith in let offset : p % 32 ≡ 28 - length bytes = omega arith in
    let front : length (q ++ bytes) + p % 32 - 28 ≡ length q = omega (arith, length-append q bytes, offset) in
    at_chain (28 - length bytes) (q ++ bytes) (is_chain p (λ z. omega arith) (omega arith) (omega (arith, offset))) (subst (λ (x : ℕ). owner g x ≡ Some (ChainCell (28 - length bytes) (q ++ bytes))) (sym cell) own) (omega (arith, offset))
    (sym (ap (λ (n : ℕ). take n (q ++ bytes)) front ∙ take-append_seam q bytes))

module _ (w : List ℕ) (g : Ledger) (end : ℕ) where
  -- the first bytes, which the first of n + 1 cells takes, and the others
  first_len : (n : ℕ) (bytes : List ℕ) → 28 * n < length bytes → length (take (length bytes - 28 * n) bytes) ≡ length bytes - 28 * n
  first_len n bytes l = length-take-le (length bytes - 28 * n) bytes (omega arith)

  rest_len : (n : ℕ) (bytes : List ℕ) → 28 * n < length bytes → length (drop (length bytes - 28 * n) bytes) ≡ 28 * n
  rest_len n bytes l = omega (arith, length-drop (length bytes - 28 * n) bytes)

  split_path : (n : ℕ) (q bytes : List ℕ) → (q ++ take (length bytes - 28 * n) bytes) ++ drop (length bytes - 28 * n) bytes ≡ q ++ bytes
  split_path n q bytes = append_assoc q (take (length bytes - 28 * n) bytes) (drop (length bytes - 28 * n) bytes) ∙ ap (λ (x : List ℕ). q ++ x) (take-append-drop (length bytes - 28 * n) bytes)

  -- the pointer that enters the chain
  pub chain_enters : (n f p : ℕ) (q bytes : List ℕ) → Owns g f (chain_owners (suc n) q bytes) → 1 ≤ f → f < 2 ^ 26 → 28 * n < length bytes → length bytes ≤ 28 * suc n → p ≡ 32 * f + (28 * suc n - length bytes) → HasPath g p q
  chain_enters n f p q bytes own low high more few is = let part : List ℕ = take (length bytes - 28 * n) bytes in
      enters_path g p f q part (owner_first g f (ChainCell (28 - length part) (q ++ part)) (chain_owners n (q ++ part) (drop (length bytes - 28 * n) bytes)) own)
      (omega (arith, first_len n bytes more)) (omega (arith, first_len n bytes more)) low high (omega (arith, first_len n bytes more))

  -- the child of a cell after which n follow
  next_path : (n f : ℕ) (q bytes : List ℕ) → Owns g (f + 1) (chain_owners n q bytes) → f + 1 < 2 ^ 26 → length bytes ≡ 28 * n → HasPath g end (q ++ bytes) → HasPath g (next_cell f n end) q
  next_path zero f q [] own small l at = subst (HasPath g end) (append-nil_ q) at
    where
      append-nil_ : (xs : List ℕ) → xs ++ [] ≡ xs
      append-nil_ [] = refl
      append-nil_ (x ∷ xs) = ap (λ (l : List ℕ). x ∷ l) (append-nil_ xs)
  next_path zero f q (b ∷ bs) own small l at = absurd (omega arith)
  next_path (suc n) f q bytes own small l at = chain_enters n (f + 1) (32 * (f + 1)) q bytes own (omega arith) small (omega arith) (omega arith) (omega arith)

  -- the cells of the chain
  pub chain_cells_are : (n f : ℕ) (q bytes : List ℕ) → Stands w f (chain_from f n bytes end) → Owns g f (chain_owners n q bytes) → f + n < 2 ^ 26 → length bytes ≤ 28 * n → 28 * n < length bytes + 28 → ItemsAreBytes bytes → HasPath g end (q ++ bytes) → AreCells w g f (chain_owners n q bytes)
  chain_cells_are zero f q bytes h own small few more are at = λ j o e. absurd (cc)
  chain_cells_are (suc n) f q bytes h own small few more are at =
      let part : List ℕ = take (length bytes - 28 * n) bytes in let after : List ℕ = drop (length bytes - 28 * n) bytes in
      let cell : List ℕ = chain_cell (padded part) (next_cell f n end) in let others : List ℕ = chain_from (f + 1) n after end in
      let first : Owner = ChainCell (28 - length part) (q ++ part) in let lengths = first_len n bytes (omega arith) in let left = rest_len n bytes (omega arith) in
      let own_after : Owns g (f + 1) (chain_owners n (q ++ part) after) = owns_back g f (f + 1) (first ∷ []) (chain_owners n (q ++ part) after) refl own in
      let at_end : HasPath g end ((q ++ part) ++ after) = subst (HasPath g end) (sym (split_path n q bytes)) at in
      let next : HasPath g (next_cell f n end) (q ++ part) = next_path n f (q ++ part) after own_after (omega arith) left at_end in
      cells_joined w g f (f + 1) (first ∷ []) (chain_owners n (q ++ part) after) refl
      (cell_alone w g f first (chain_is w g f q part (next_cell f n end) (stands_front w f cell others h) (omega (arith, lengths)) (omega (arith, lengths)) (bytes_taken (length bytes - 28 * n) bytes are) next))
      (chain_cells_are n (f + 1) (q ++ part) after (stands_back w f 1 cell others refl h) own_after (omega arith) (omega (arith, left)) (omega (arith, left)) (bytes_dropped (length bytes - 28 * n) bytes are) at_end)
