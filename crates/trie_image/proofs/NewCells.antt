-- The new cells of a put but those of a split node made from a sparse one: each is what its owner says where its words
-- stand.
use Rattle.std.proofs.Common.{◌≡◌, ◌≢◌, ◌⊎◌, ℕ, zero, suc, ◌+◌, ◌-◌, ◌*◌, ◌/◌, ◌%◌, ◌^◌, ◌<◌, ◌≤◌, nat_le, true, false, List, [], ◌∷◌, ◌++◌, length, take, map, slice_index, slice_get, Some, refl, sym, ap, ◌∙◌, subst, arith, ⊎_elim, leb-true, leb-false}
use Rattle.std.proofs.lemmas.Bool.{cond_both, cases_eq}
use Rattle.std.proofs.lemmas.List.{get_or-take, length-take-le}
use Rattle.std.proofs.lemmas.List.FromFn.{get_or-map-range_with_len, length-map-range_with_len}
use Rattle.std.proofs.lemmas.List.Sorted.{IsPermutation-refl}
use Rattle.std.specs.List.{range_with_len}
use Rattle.std.specs.List.Sorted.{IsPermutation}
use Rattle.cell_layout.proofs.WordsAt.{length_record_words}
use Rattle.cell_layout.specs.declared.Kind.TheVariants.{Content, Chain, Sparse, Wide}
use Rattle.cell_layout.specs.Words.{half_of, byte_of}
use Rattle.cell_layout.specs.Pointers.{kind_at}
use Rattle.cell_layout.specs.Slots.{digits, slots_of, slot_at, child_count, Ascends, IsSparse}
use Rattle.cell_layout.proofs.Added.{slot_is}
use Rattle.cell_layout.specs.Cells.{record_cells, record_word, value_word, record_words, chain_cell, two_words, branch_words, prefix_words, lone_words}
use Rattle.cell_layout.proofs.CellBytes.{pair_low, pair_high, byte_of_chain_cell, tail_of_chain_cell}
use Rattle.trie_image.specs.declared.Put.{Put}
use Rattle.trie_image.specs.declared.Owner.{Owner}
use Rattle.trie_image.specs.declared.Owner.TheVariants.{RecordCell, TopCell, LeafCell}
use Rattle.trie_image.specs.declared.Ledger.{Ledger}
use Rattle.trie_image.specs.declared.exit.Stand.{Stand}
use Rattle.trie_image.specs.Image.{word_of, field, cell_byte}
use Rattle.trie_image.specs.Paths.{owner, chain_path, HasPath}
use Rattle.trie_image.specs.Cell.{IsChainCell, IsSparseCell, IsMidCell, IsLeafCell, IsPrefixCell, IsCell}
use Rattle.trie_image.specs.Body.{passed_bytes}
use Rattle.trie_image.proofs.CellWords.{Stands, bytes_passed, passed_byte, lone_field, lone_other}
use Rattle.trie_image.proofs.NewChains.{AreCells}

-- the owners of the cells of the record of put n
abbrev pub record_owners : ℕ → ℕ → List Owner
record_owners n cells = map (λ j. RecordCell n j) (range_with_len 0 cells)

pub get_mapped : (f : ℕ → Owner) (a k j : ℕ) (o : Owner) → slice_get (map f (range_with_len a k)) j ≡ Some o → (j < k) × (f (a + j) ≡ o)
get_mapped f a zero j o e = absurd (cc)
get_mapped f a (suc k) zero o e = let is : f a ≡ o = cc in let z : a + 0 ≡ a = omega arith in (omega arith, ap f z ∙ is)
get_mapped f a (suc k) (suc j) o e = let h = get_mapped f (a + 1) k j o e in let z : a + suc j ≡ a + 1 + j = omega arith in (omega (arith, h.0), ap f z ∙ h.1)

-- the words of a record
record_word_is : (number : ℕ) (value : List ℕ) (k : ℕ) → k < 4 * record_cells (length value) → slice_index (record_words number value) k ≡ record_word number value k
record_word_is number value zero l = refl
record_word_is number value (suc k) l = get_or-map-range_with_len (value_word value) 0 (4 * record_cells (length value) - 1) k k 0 (omega arith) (omega arith)

pub record_cells_are : (w : List ℕ) (g : Ledger) (c n : ℕ) (put : Put) → Stands w c (record_words (n + 1) put.value) → put.cell ≡ c → slice_get g.puts n ≡ Some put → AreCells w g c (record_owners n (record_cells (length put.value)))
record_cells_are w g c n put h at there j o e = let m = get_mapped (λ j. RecordCell n j) 0 (record_cells (length put.value)) j o e in
    let cell : c + j ≡ put.cell + j = omega arith in let z : 0 + j ≡ j = omega arith in let is : RecordCell n j ≡ o = ap (λ (x : ℕ). RecordCell n x) (sym z) ∙ m.1 in let inside : j < record_cells (length put.value) = m.0 in
    subst (λ (x : Owner). IsCell w g (c + j) x) is (
      put,
      there,
      record {
        place = cell;
        inside = inside;
        words = λ i l. let at_word : 4 * (c + j) + i ≡ 4 * c + (4 * j + i) = omega arith in let few : 4 * j + i < 4 * record_cells (length put.value) = omega arith in
            ap (λ (x : ℕ). slice_index w x) at_word ∙ (h (4 * j + i) (omega (arith, length_record_words (n + 1) put.value)) ∙ record_word_is (n + 1) put.value (4 * j + i) few);
      },
    )

-- a sparse cell of two children
module _ (w : List ℕ) (g : Ledger) (c lesser low greater high : ℕ) (q : List ℕ) (h : Stands w c (two_words lesser low greater high)) (order : lesser < greater) (small : greater < 256) (fits : low < 2 ^ 32) (at_low : HasPath g low (q ++ lesser ∷ [])) (at_high : HasPath g high (q ++ greater ∷ [])) where
  third : word_of w c 3 ≡ lesser + 256 * greater + 6 * 2 ^ 48
  third = h 3 (omega arith)

  slots_are : slots_of (lesser + 256 * greater + 6 * 2 ^ 48) ≡ 0 ∷ 1 ∷ []
  unfolding slots_of
  slots_are = let six : (lesser + 256 * greater + 6 * 2 ^ 48) / 2 ^ 48 ≡ 6 = omega arith in ap (λ (x : ℕ). digits 7 x) six

  first_byte : byte_of (lesser + 256 * greater + 6 * 2 ^ 48) 0 ≡ lesser
  first_byte = let e : (lesser + 256 * greater + 6 * 2 ^ 48) / 2 ^ 0 % 256 ≡ lesser = omega arith in e

  second_byte : byte_of (lesser + 256 * greater + 6 * 2 ^ 48) 1 ≡ greater
  second_byte = let e : (lesser + 256 * greater + 6 * 2 ^ 48) / 2 ^ 8 % 256 ≡ greater = omega arith in e

  two : child_count (lesser + 256 * greater + 6 * 2 ^ 48) ≡ 2
  two = ap (λ (l : List ℕ). length l) slots_are

  is_sparse : IsSparse (lesser + 256 * greater + 6 * 2 ^ 48)
  is_sparse = record {
    least = omega (arith, two);
    most = omega (arith, two);
    slots = subst (λ (l : List ℕ). IsPermutation (range_with_len 0 (length l)) l) (sym slots_are) (IsPermutation-refl (0 ∷ 1 ∷ []));
    ascends = subst (λ (l : List ℕ). Ascends (map (byte_of (lesser + 256 * greater + 6 * 2 ^ 48)) l)) (sym slots_are)
        (subst (λ (x : ℕ). x < byte_of (lesser + 256 * greater + 6 * 2 ^ 48) 1) (sym first_byte) (subst (λ (x : ℕ). lesser < x) (sym second_byte) order), tt);
  }

  by_slot : (b s : ℕ) → s < 2 → byte_of (lesser + 256 * greater + 6 * 2 ^ 48) s ≡ b → HasPath g (field w c s) (q ++ b ∷ [])
  by_slot b zero l e = let is : field w c 0 ≡ low = ap (λ (x : ℕ). half_of x false) (h 0 (omega arith)) ∙ pair_low low high fits in
      subst (λ (x : ℕ). HasPath g x (q ++ b ∷ [])) (sym is) (subst (λ (x : ℕ). HasPath g low (q ++ x ∷ [])) (sym first_byte ∙ e) at_low)
  by_slot b (suc zero) l e = let is : field w c 1 ≡ high = ap (λ (x : ℕ). half_of x true) (h 0 (omega arith)) ∙ pair_high low high fits in
      subst (λ (x : ℕ). HasPath g x (q ++ b ∷ [])) (sym is) (subst (λ (x : ℕ). HasPath g high (q ++ x ∷ [])) (sym second_byte ∙ e) at_high)
  by_slot b (suc (suc s)) l e = absurd (omega arith)

  two_is : IsSparseCell w g c q
  two_is = record {
    sparse = subst IsSparse (sym third) is_sparse;
    children = λ b s e. let at : slot_at (lesser + 256 * greater + 6 * 2 ^ 48) b ≡ Some s = ap (λ (x : ℕ). slot_at x b) (sym third) ∙ e in let f = slot_is (lesser + 256 * greater + 6 * 2 ^ 48) b s at in
        by_slot b s (omega (arith, f.1, two)) f.2;
  }

pub split_is : (w : List ℕ) (g : Ledger) (c old child new entry : ℕ) (q : List ℕ) → Stands w c (branch_words old child new entry) → old ≢ new → old < 256 → new < 256 → child < 2 ^ 32 → entry < 2 ^ 32 → HasPath g child (q ++ old ∷ []) → HasPath g entry (q ++ new ∷ []) → IsSparseCell w g c q
split_is w g c old child new entry q h ne so sn fc fe at_old at_new = cond_both (nat_le old new) (two_words old child new entry) (two_words new entry old child) (λ (l : List ℕ). Stands w c l → IsSparseCell w g c q)
    (λ e h. let le = leb-true old new e in two_is w g c old child new entry q h (omega arith) sn fc at_old at_new)
    (λ e h. let le = leb-false old new e in two_is w g c new entry old child q h (omega arith) so fe at_new at_old) h

-- a prefix cell
pub prefix_is : (w : List ℕ) (g : Ledger) (c content node : ℕ) (q : List ℕ) → Stands w c (prefix_words content node) → content < 2 ^ 32 → HasPath g content q → kind_at content ≡ Some Content → HasPath g node q → (kind_at node ≡ Some Chain) ⊎ ((kind_at node ≡ Some Sparse) ⊎ (kind_at node ≡ Some Wide)) → IsPrefixCell w g c q
prefix_is w g c content node q h fits at is_content at_node is_node =
    let a : field w c 0 ≡ content = ap (λ (x : ℕ). half_of x false) (h 0 (omega arith)) ∙ pair_low content node fits in let b : field w c 1 ≡ node = ap (λ (x : ℕ). half_of x true) (h 0 (omega arith)) ∙ pair_high content node fits in record {
      content = subst (λ (x : ℕ). HasPath g x q) (sym a) at;
      is_content = ap (λ (x : ℕ). kind_at x) a ∙ is_content;
      node = subst (λ (x : ℕ). HasPath g x q) (sym b) at_node;
      is_node = subst (λ (x : ℕ). (kind_at x ≡ Some Chain) ⊎ ((kind_at x ≡ Some Sparse) ⊎ (kind_at x ≡ Some Wide))) (sym b) is_node;
    }

-- a mid and a leaf cell with one pointer
pub mid_is : (w : List ℕ) (g : Ledger) (c t i j p : ℕ) → Stands w c (lone_words j p) → p < 2 ^ 32 → owner g (p / 32) ≡ Some (LeafCell t i j) → kind_at p ≡ Some Wide → IsMidCell w g c t i
mid_is w g c t i j p h fits own kind = record {
  leaves = λ k l ne. ⊎_elim (λ (e : j ≡ k). subst (λ (x : ℕ). owner g (field w c k / 32) ≡ Some (LeafCell t i x)) e (subst (λ (x : ℕ). owner g (x / 32) ≡ Some (LeafCell t i j)) (sym (lone_field w c j p h fits k l e)) own)) (λ (d : j ≢ k). absurd (ne (lone_other w c j p h fits k l d))) (cases_eq j k);
  wide = λ k l ne. ⊎_elim (λ (e : j ≡ k). ap (λ (x : ℕ). kind_at x) (lone_field w c j p h fits k l e) ∙ kind) (λ (d : j ≢ k). absurd (ne (lone_other w c j p h fits k l d))) (cases_eq j k);
}

pub leaf_is : (w : List ℕ) (g : Ledger) (c t i j n p : ℕ) (q : List ℕ) → Stands w c (lone_words n p) → p < 2 ^ 32 → i < 4 → j < 8 → owner g t ≡ Some (TopCell q) → HasPath g p (q ++ (64 * i + 8 * j + n) ∷ []) → IsLeafCell w g c t i j
leaf_is w g c t i j n p q h fits si sj top at = record {
  children = λ k r l ne own. ⊎_elim
      (λ (e : n ≡ k). let a : Some (TopCell q) ≡ Some (TopCell r) = sym top ∙ own in let same : q ≡ r = cc in
      subst (λ (x : ℕ). HasPath g (field w c k) (r ++ (64 * i + 8 * j + x) ∷ [])) e (subst (λ (x : List ℕ). HasPath g (field w c k) (x ++ (64 * i + 8 * j + n) ∷ [])) same (subst (λ (x : ℕ). HasPath g x (q ++ (64 * i + 8 * j + n) ∷ [])) (sym (lone_field w c n p h fits k l e)) at)))
      (λ (d : n ≢ k). absurd (ne (lone_other w c n p h fits k l d))) (cases_eq n k);
  small = (si, sj);
  top = q;
  is_top = top;
}

-- the cell of the bytes that the walk passed in a chain cell, and its entry
module _ (w w' : List ℕ) (g g' : Ledger) (s : Stand) (from : ℕ) (t : List ℕ) (chain : IsChainCell w g (s.at / 32) from t) (cell : s.at / 32 ≡ s.entered / 32) (later : s.entered < s.at) (offset : s.at % 32 ≤ 27) (begun : from ≤ s.entered % 32) where
  passed_long : length (chain_path t (s.at % 32)) ≡ length t + s.at % 32 - 28
  passed_long = length-take-le (length t + s.at % 32 - 28) t (omega arith)

  pub passed_is : (c next : ℕ) → Stands w' c (chain_cell (passed_bytes w s) next) → HasPath g' next (chain_path t (s.at % 32)) → IsChainCell w' g' c (28 - (s.at - s.entered)) (chain_path t (s.at % 32))
  passed_is c next h at = record {
    entered = omega arith;
    long = omega (arith, passed_long, chain.long);
    bytes = λ o lo hi. let four : length (chain_cell (passed_bytes w s) next) ≡ 4 = refl in
        let there : from ≤ s.at % 32 + o - 28 = omega arith in let near : s.at % 32 + o - 28 ≤ 27 = omega arith in
        let old : cell_byte w (s.at / 32) (s.at % 32 + o - 28) ≡ slice_index t (length t + (s.at % 32 + o - 28) - 28) = chain.bytes (s.at % 32 + o - 28) there near in
        let index : length t + (s.at % 32 + o - 28) - 28 ≡ length (chain_path t (s.at % 32)) + o - 28 = omega (arith, passed_long, chain.long) in
        ap (λ (x : ℕ). byte_of x (o % 8)) (h (o / 8) (omega arith)) ∙ (byte_of_chain_cell (passed_bytes w s) next (bytes_passed w s) o hi ∙ (passed_byte w s o hi (omega arith) ∙ (old ∙ (ap (λ (x : ℕ). slice_index t x) index
        ∙ sym (get_or-take (length t + s.at % 32 - 28) t (length (chain_path t (s.at % 32)) + o - 28) 0 (omega (arith, passed_long, chain.long)))))));
    tail = subst (λ (x : ℕ). HasPath g' x (chain_path t (s.at % 32))) (sym (ap (λ (x : ℕ). half_of x true) (h 3 (omega arith)) ∙ tail_of_chain_cell (passed_bytes w s) next (bytes_passed w s))) at;
  }

  -- the entry's path, cut from that of the new cell's tail
  pub passed_path : chain_path (chain_path t (s.at % 32)) (28 - (s.at - s.entered)) ≡ chain_path t (s.entered % 32)
  passed_path = let n : length (chain_path t (s.at % 32)) + (28 - (s.at - s.entered)) - 28 ≡ length t + s.entered % 32 - 28 = omega (arith, passed_long, chain.long) in
      ap (λ (x : ℕ). take x (chain_path t (s.at % 32))) n ∙ shorter (length t + s.entered % 32 - 28) (length t + s.at % 32 - 28) t (omega arith)
    where
      shorter : (a b : ℕ) (l : List ℕ) → a ≤ b → take a (take b l) ≡ take a l
      shorter zero b l h = refl
      shorter (suc a) zero l h = absurd (omega arith)
      shorter (suc a) (suc b) [] h = refl
      shorter (suc a) (suc b) (x ∷ l) h = ap (λ (k : List ℕ). x ∷ k) (shorter a b l (omega arith))
