-- The children of a new split node, read from its words.
use Rattle.std.proofs.Common.{◌≡◌, ◌≢◌, ℕ, zero, suc, ◌+◌, ◌*◌, ◌/◌, ◌%◌, ◌^◌, ◌<◌, ◌≤◌, ◌==◌, nat_lt, ◌||◌, Bool, true, false, List, [], ◌∷◌, ◌++◌, length, filter, count_by, get_or, Some, refl, sym, ap, ◌∙◌, subst, arith, length-append, eq-eqb, ne_eqb, eqb-true, lt-ltb}
use Rattle.std.proofs.lemmas.Bool.{cond-true, cond-false}
use Rattle.std.proofs.lemmas.List.Sums.{length-filter}
use Rattle.std.proofs.lemmas.List.Folds.{list_any_at}
use Rattle.std.specs.List.{range_with_len}
use Rattle.cell_layout.specs.Words.{half_of}
use Rattle.cell_layout.specs.Slots.{slot_bytes, slot_at}
use Rattle.cell_layout.proofs.Added.{slot_is, get_or-slot_bytes}
use Rattle.cell_layout.specs.Cells.{eight}
use Rattle.cell_layout.proofs.CellBytes.{pair_low, pair_high}
use Rattle.trie_image.specs.Image.{field, leaf_child, mid_child, split_child}
use Rattle.trie_image.specs.Body.{seven, has_mid, has_leaf, mids_below, leaves_below, inner_pointer, top_field, mid_field, leaf_field, top_words, mid_words, leaf_words}
use Rattle.trie_image.proofs.BodyLengths.{length_eights}
use Rattle.trie_image.proofs.CellWords.{Stands, stands_front, stands_back}
use Rattle.trie_image.proofs.NewSplitNode.{at_rank, eight_field, one_of, few_below}

or_true : (t : Bool) → (t || true) ≡ true
or_true true = refl
or_true false = refl

-- a byte's leaf cell stands under its mid cell
pub leaf_mid : (bytes : List ℕ) (k : ℕ) → has_leaf bytes k ≡ true → has_mid bytes (k / 8) ≡ true
leaf_mid [] k e = absurd (cc)
leaf_mid (c ∷ cs) k e = by (c / 8 == k) refl (λ h. leaf_mid cs k h) e
  where
    by : (t : Bool) → (c / 8 == k) ≡ t → (has_leaf cs k ≡ true → has_mid cs (k / 8) ≡ true) → (t || has_leaf cs k) ≡ true → (c / 64 == k / 8 || has_mid cs (k / 8)) ≡ true
    by true is later e = let at : c / 8 ≡ k = eqb-true (c / 8) k is in let same : c / 64 ≡ k / 8 = omega arith in ap (λ (x : Bool). x || has_mid cs (k / 8)) (eq-eqb (c / 64) (k / 8) same)
    by false is later e = ap (λ (x : Bool). c / 64 == k / 8 || x) (later e) ∙ or_true (c / 64 == k / 8)

-- a byte that the sparse node has, and the new one, have leaf cells
pub has_new : (word b : ℕ) → has_leaf (seven word b) (b / 8) ≡ true
has_new word b = ap (λ (x : Bool). x || has_leaf (slot_bytes word) (b / 8)) (eq-eqb (b / 8) (b / 8) refl)

length_seven : (word b : ℕ) → length (seven word b) ≡ 7
unfolding slot_bytes
length_seven word b = refl

pub has_old : (word b a s : ℕ) → slot_at word a ≡ Some s → has_leaf (seven word b) (a / 8) ≡ true
has_old word b a s e = let i = slot_is word a s e in let is : get_or (seven word b) (suc s) 0 ≡ a = get_or-slot_bytes word s i.0 ∙ i.2 in
    list_any_at (λ (c : ℕ). c / 8 == a / 8) (seven word b) (suc s) 0 (omega (arith, i.0, length_seven word b)) (ap (λ (c : ℕ). c / 8 == a / 8) is ∙ eq-eqb (a / 8) (a / 8) refl)

inner_none : (t : Bool) (c : ℕ) → t ≡ false → inner_pointer t c ≡ 0
inner_none t c e = ap (λ (x : Bool). inner_pointer x c) e

pub inner_some : (t : Bool) (c : ℕ) → t ≡ true → inner_pointer t c ≡ 32 * c + 28
inner_some t c e = ap (λ (x : Bool). inner_pointer x c) e

pub inner_fits : (t : Bool) (c : ℕ) → c < 2 ^ 26 → inner_pointer t c < 2 ^ 32
inner_fits true c l = omega arith
inner_fits false c l = omega arith

module _ (w0 w : List ℕ) (node b entry x : ℕ) (bytes : List ℕ) (h : Stands w x (top_words bytes x ++ mid_words bytes x 4 ++ leaf_words w0 node b entry bytes 32)) (capacity : x + 64 < 2 ^ 26) (small : (c : ℕ) → leaf_field w0 node b entry c < 2 ^ 32) where
  mids_few : (i : ℕ) → mids_below bytes i ≤ i
  unfolding mids_below
  mids_few i = few_below (has_mid bytes) i

  leaves_few : (k : ℕ) → leaves_below bytes k ≤ k
  unfolding leaves_below
  leaves_few k = few_below (has_leaf bytes) k

  -- the first mid cell is cell x + 1, the first leaf cell stands behind the mid cells
  unfoldable pub mid_cell : ℕ → ℕ
  mid_cell i = x + 1 + mids_below bytes i

  unfoldable pub leaf_cell : ℕ → ℕ
  leaf_cell k = x + 1 + mids_below bytes 4 + leaves_below bytes k

  pub top_is : (i : ℕ) → top_field bytes x i ≡ inner_pointer (has_mid bytes i) (mid_cell i)
  unfolding top_field mid_cell
  top_is i = refl

  pub mid_is : (k : ℕ) → mid_field bytes x k ≡ inner_pointer (has_leaf bytes k) (leaf_cell k)
  unfolding mid_field leaf_cell
  mid_is k = refl

  top_small : (i : ℕ) → i < 4 → top_field bytes x i < 2 ^ 32
  unfolding mid_cell
  top_small i l = subst (λ (p : ℕ). p < 2 ^ 32) (sym (top_is i)) (inner_fits (has_mid bytes i) (mid_cell i) (omega (arith, mids_few i)))

  mid_small : (k : ℕ) → k < 32 → mid_field bytes x k < 2 ^ 32
  unfolding leaf_cell
  mid_small k l = subst (λ (p : ℕ). p < 2 ^ 32) (sym (mid_is k)) (inner_fits (has_leaf bytes k) (leaf_cell k) (omega (arith, mids_few 4, leaves_few k)))

  inner : Stands w x (top_words bytes x ++ mid_words bytes x 4)
  inner = stands_front w x (top_words bytes x ++ mid_words bytes x 4) (leaf_words w0 node b entry bytes 32) h

  pub top_read : (i : ℕ) → i < 4 → field w x i ≡ top_field bytes x i
  top_read = let t : Stands w x (top_words bytes x) = stands_front w x (top_words bytes x) (mid_words bytes x 4) inner in by t
    where
      by : Stands w x (top_words bytes x) → (i : ℕ) → i < 4 → field w x i ≡ top_field bytes x i
      by t zero l = ap (λ (y : ℕ). half_of y false) (t 0 (omega arith)) ∙ pair_low (top_field bytes x 0) (top_field bytes x 1) (top_small 0 (omega arith))
      by t (suc zero) l = ap (λ (y : ℕ). half_of y true) (t 0 (omega arith)) ∙ pair_high (top_field bytes x 0) (top_field bytes x 1) (top_small 0 (omega arith))
      by t (suc (suc zero)) l = ap (λ (y : ℕ). half_of y false) (t 1 (omega arith)) ∙ pair_low (top_field bytes x 2) (top_field bytes x 3) (top_small 2 (omega arith))
      by t (suc (suc (suc zero))) l = ap (λ (y : ℕ). half_of y true) (t 1 (omega arith)) ∙ pair_high (top_field bytes x 2) (top_field bytes x 3) (top_small 2 (omega arith))
      by t (suc (suc (suc (suc i)))) l = absurd (omega arith)

  mids_stand : Stands w (x + 1) (mid_words bytes x 4)
  mids_stand = stands_back w x 1 (top_words bytes x) (mid_words bytes x 4) refl inner

  mid_stands : (i : ℕ) → i < 4 → has_mid bytes i ≡ true → Stands w (mid_cell i) (eight (mid_field bytes x) (8 * i))
  unfolding mid_words mids_below mid_cell
  mid_stands i l e = one_of w (x + 1) (mid_field bytes x) (filter (has_mid bytes) (range_with_len 0 4)) (count_by (has_mid bytes) (range_with_len 0 i)) i mids_stand (at_rank (has_mid bytes) 4 i l e)

  pub mid_read : (k : ℕ) → k < 32 → has_mid bytes (k / 8) ≡ true → field w (mid_cell (k / 8)) (k % 8) ≡ mid_field bytes x k
  mid_read k l e = let is : 8 * (k / 8) + k % 8 ≡ k = omega arith in eight_field w (mid_cell (k / 8)) (mid_field bytes x) (8 * (k / 8)) (k % 8) (mid_stands (k / 8) (omega arith) e) (omega arith) (λ i s. mid_small (8 * (k / 8) + i) (omega arith)) ∙ ap (λ (y : ℕ). mid_field bytes x y) is

  words_before : length (top_words bytes x ++ mid_words bytes x 4) ≡ 4 * (1 + mids_below bytes 4)
  unfolding mid_words mids_below
  words_before = let m = length_eights (mid_field bytes x) (filter (has_mid bytes) (range_with_len 0 4)) in let c = length-filter (has_mid bytes) (range_with_len 0 4) in
      let four : length (top_words bytes x) ≡ 4 = refl in omega (arith, length-append (top_words bytes x) (mid_words bytes x 4), m, c, four)

  leaves_stand : Stands w (x + 1 + mids_below bytes 4) (leaf_words w0 node b entry bytes 32)
  leaves_stand = let z : x + (1 + mids_below bytes 4) ≡ x + 1 + mids_below bytes 4 = omega arith in
      subst (λ (c : ℕ). Stands w c (leaf_words w0 node b entry bytes 32)) z (stands_back w x (1 + mids_below bytes 4) (top_words bytes x ++ mid_words bytes x 4) (leaf_words w0 node b entry bytes 32) words_before h)

  leaf_stands : (k : ℕ) → k < 32 → has_leaf bytes k ≡ true → Stands w (leaf_cell k) (eight (leaf_field w0 node b entry) (8 * k))
  unfolding leaf_words leaves_below leaf_cell
  leaf_stands k l e = one_of w (x + 1 + mids_below bytes 4) (leaf_field w0 node b entry) (filter (has_leaf bytes) (range_with_len 0 32)) (count_by (has_leaf bytes) (range_with_len 0 k)) k leaves_stand (at_rank (has_leaf bytes) 32 k l e)

  leaf_read : (a : ℕ) → a < 256 → has_leaf bytes (a / 8) ≡ true → field w (leaf_cell (a / 8)) (a % 8) ≡ leaf_field w0 node b entry a
  leaf_read a l e = let is : 8 * (a / 8) + a % 8 ≡ a = omega arith in eight_field w (leaf_cell (a / 8)) (leaf_field w0 node b entry) (8 * (a / 8)) (a % 8) (leaf_stands (a / 8) (omega arith) e) (omega arith) (λ i s. small (8 * (a / 8) + i)) ∙ ap (λ (y : ℕ). leaf_field w0 node b entry y) is

  -- through the top cell and a mid cell
  through : (a p : ℕ) → a < 256 → has_mid bytes (a / 64) ≡ true → mid_field bytes x (a / 8) ≡ p → mid_child w (field w x (a / 64)) a ≡ leaf_child w p a
  through a p l e is = let m : ℕ = mid_cell (a / 64) in let top : field w x (a / 64) ≡ 32 * m + 28 = top_read (a / 64) (omega arith) ∙ (top_is (a / 64) ∙ inner_some (has_mid bytes (a / 64)) m e) in
      let there : field w x (a / 64) ≢ 0 = λ z. let f : 32 * m + 28 ≡ 0 = sym top ∙ z in omega arith in let cell : field w x (a / 64) / 32 ≡ m = omega (arith, top) in
      let half : a / 8 / 8 ≡ a / 64 = omega arith in let read = mid_read (a / 8) (omega arith) (ap (λ (y : ℕ). has_mid bytes y) half ∙ e) in
      cond-false (field w x (a / 64) == 0) 0 (leaf_child w (field w (field w x (a / 64) / 32) (a / 8 % 8)) a) (ne_eqb (field w x (a / 64)) 0 there)
      ∙ ap (λ (y : ℕ). leaf_child w y a) (ap (λ (c : ℕ). field w c (a / 8 % 8)) (cell ∙ ap (λ (y : ℕ). mid_cell y) (sym half)) ∙ (read ∙ is))

  child_there : (a : ℕ) → a < 256 → has_leaf bytes (a / 8) ≡ true → mid_child w (field w x (a / 64)) a ≡ leaf_field w0 node b entry a
  child_there a l e = let c : ℕ = leaf_cell (a / 8) in let half : a / 8 / 8 ≡ a / 64 = omega arith in
      let mid : has_mid bytes (a / 64) ≡ true = ap (λ (y : ℕ). has_mid bytes y) (sym half) ∙ leaf_mid bytes (a / 8) e in let is : mid_field bytes x (a / 8) ≡ 32 * c + 28 = mid_is (a / 8) ∙ inner_some (has_leaf bytes (a / 8)) c e in
      let there : 32 * c + 28 ≢ 0 = λ z. omega arith in let cell : (32 * c + 28) / 32 ≡ c = omega arith in
      through a (32 * c + 28) l mid is ∙ (cond-false (32 * c + 28 == 0) 0 (field w ((32 * c + 28) / 32) (a % 8)) (ne_eqb (32 * c + 28) 0 there) ∙ (ap (λ (y : ℕ). field w y (a % 8)) cell ∙ leaf_read a l e))

  child_absent : (a : ℕ) → a < 256 → has_leaf bytes (a / 8) ≡ false → mid_child w (field w x (a / 64)) a ≡ 0
  child_absent a l e = by (has_mid bytes (a / 64)) refl
    where
      by : (t : Bool) → has_mid bytes (a / 64) ≡ t → mid_child w (field w x (a / 64)) a ≡ 0
      by true is = through a 0 l is (mid_is (a / 8) ∙ inner_none (has_leaf bytes (a / 8)) (leaf_cell (a / 8)) e)
      by false is = let none : field w x (a / 64) ≡ 0 = top_read (a / 64) (omega arith) ∙ (top_is (a / 64) ∙ inner_none (has_mid bytes (a / 64)) (mid_cell (a / 64)) is) in ap (λ (y : ℕ). mid_child w y a) none

  -- a byte of the bytes has its child, and one without a leaf cell has none
  pub split_there : (a : ℕ) → a < 256 → has_leaf bytes (a / 8) ≡ true → split_child w x a ≡ leaf_field w0 node b entry a
  split_there a l e = cond-true (nat_lt a 256) (mid_child w (field w x (a / 64)) a) 0 (lt-ltb a 256 l) ∙ child_there a l e

  pub split_absent : (a : ℕ) → a < 256 → has_leaf bytes (a / 8) ≡ false → split_child w x a ≡ 0
  split_absent a l e = cond-true (nat_lt a 256) (mid_child w (field w x (a / 64)) a) 0 (lt-ltb a 256 l) ∙ child_absent a l e
