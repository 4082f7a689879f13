-- The children of a new sparse cell of two bytes.
use Rattle.std.proofs.Common.{◌≡◌, ◌≢◌, ℕ, ◌+◌, ◌*◌, ◌/◌, ◌%◌, ◌^◌, ◌<◌, ◌≤◌, ◌==◌, nat_le, true, false, cond, List, [], ◌∷◌, length, take, Option, Some, None, refl, sym, ap, ap₂, ◌∙◌, arith, eq-eqb, ne_eqb}
use Rattle.std.proofs.lemmas.Bool.{cond_both, cond-true, cond-false}
use Rattle.std.specs.List.{position_from}
use Rattle.cell_layout.specs.declared.Kind.{Kind}
use Rattle.cell_layout.specs.declared.Kind.TheVariants as kind
use Rattle.cell_layout.specs.Words.{half_of, byte_of}
use Rattle.cell_layout.specs.Pointers.{kind_at}
use Rattle.cell_layout.specs.Slots.{digits, slots_of, slot_bytes, slot_at, child_count, child_bytes}
use Rattle.cell_layout.specs.Cells.{two_words, branch_words}
use Rattle.cell_layout.proofs.CellBytes.{pair_low, pair_high}
use Rattle.trie_image.specs.Image.{word_of, slot_child, child_of}
use Rattle.trie_image.proofs.CellWords.{Stands}
use Rattle.trie_image.proofs.NewPointers.{offset_kind}

-- what the word of two bytes finds
module _ (lesser greater : ℕ) (sl : lesser < 256) (sg : greater < 256) where
  two_word : ℕ
  two_word = lesser + 256 * greater + 6 * 2 ^ 48

  first_byte : byte_of two_word 0 ≡ lesser
  unfolding two_word
  first_byte = let e : (lesser + 256 * greater + 6 * 2 ^ 48) / 2 ^ 0 % 256 ≡ lesser = omega arith in e

  second_byte : byte_of two_word 1 ≡ greater
  unfolding two_word
  second_byte = let e : (lesser + 256 * greater + 6 * 2 ^ 48) / 2 ^ 8 % 256 ≡ greater = omega arith in e

  count_is : child_count two_word ≡ 2
  unfolding slots_of two_word
  count_is = let six : (lesser + 256 * greater + 6 * 2 ^ 48) / 2 ^ 48 ≡ 6 = omega arith in ap (λ (x : ℕ). length (digits 7 x)) six

  taken_two : take 2 (slot_bytes two_word) ≡ byte_of two_word 0 ∷ byte_of two_word 1 ∷ []
  unfolding slot_bytes
  taken_two = refl

  bytes_are : child_bytes two_word ≡ lesser ∷ greater ∷ []
  bytes_are = ap (λ (n : ℕ). take n (slot_bytes two_word)) count_is ∙ (taken_two ∙ ap₂ (λ (x y : ℕ). x ∷ y ∷ []) first_byte second_byte)

  pub two_slots : (a : ℕ) → slot_at (lesser + 256 * greater + 6 * 2 ^ 48) a ≡ cond (lesser == a) (Some 0) (cond (greater == a) (Some 1) None)
  unfolding slot_at two_word
  two_slots a = ap (λ (xs : List ℕ). position_from (λ x. x == a) 0 xs) bytes_are

module _ (w : List ℕ) (x p : ℕ) (is : p ≡ 32 * x + 30) (low : 1 ≤ x) (high : x < 2 ^ 26) where
  cell : p / 32 ≡ x
  cell = omega arith

  pub sparse_kind : kind_at p ≡ Some kind.Sparse
  sparse_kind = offset_kind p x 30 is low high (omega arith)

  found : (a : ℕ) (o : Option ℕ) → slot_at (word_of w x 3) a ≡ o → child_of w p a (kind_at p) ≡ slot_child w x o
  found a o e = ap (λ (k : Option Kind). child_of w p a k) sparse_kind ∙ (ap (λ (c : ℕ). slot_child w c (slot_at (word_of w c 3) a)) cell ∙ ap (λ (y : Option ℕ). slot_child w x y) e)

  module _ (lesser left greater right : ℕ) (h : Stands w x (two_words lesser left greater right)) (sl : lesser < 256) (sg : greater < 256) (fits : left < 2 ^ 32) where
    slots : (a : ℕ) → slot_at (word_of w x 3) a ≡ cond (lesser == a) (Some 0) (cond (greater == a) (Some 1) None)
    slots a = ap (λ (y : ℕ). slot_at y a) (h 3 (omega arith)) ∙ two_slots lesser greater sl sg a

    two_first : child_of w p lesser (kind_at p) ≡ left
    two_first = found lesser (Some 0) (slots lesser ∙ cond-true (lesser == lesser) (Some 0) (cond (greater == lesser) (Some 1) None) (eq-eqb lesser lesser refl)) ∙ (ap (λ (y : ℕ). half_of y false) (h 0 (omega arith)) ∙ pair_low left right fits)

    two_second : lesser ≢ greater → child_of w p greater (kind_at p) ≡ right
    two_second ne = found greater (Some 1) (slots greater ∙ (cond-false (lesser == greater) (Some 0) (cond (greater == greater) (Some 1) None) (ne_eqb lesser greater ne) ∙ cond-true (greater == greater) (Some 1) None (eq-eqb greater greater refl)))
        ∙ (ap (λ (y : ℕ). half_of y true) (h 0 (omega arith)) ∙ pair_high left right fits)

    two_other : (a : ℕ) → lesser ≢ a → greater ≢ a → child_of w p a (kind_at p) ≡ 0
    two_other a nl ng = found a None (slots a ∙ (cond-false (lesser == a) (Some 0) (cond (greater == a) (Some 1) None) (ne_eqb lesser a nl) ∙ cond-false (greater == a) (Some 1) None (ne_eqb greater a ng)))

  module _ (old child new entry : ℕ) (h : Stands w x (branch_words old child new entry)) (so : old < 256) (sn : new < 256) (fc : child < 2 ^ 32) (fe : entry < 2 ^ 32) (ne : old ≢ new) where
    by_order : (P : Type 0) → (Stands w x (two_words old child new entry) → P) → (Stands w x (two_words new entry old child) → P) → P
    by_order P f g = cond_both (nat_le old new) (two_words old child new entry) (two_words new entry old child) (λ (l : List ℕ). Stands w x l → P) (λ e. f) (λ e. g) h

    pub split_old : child_of w p old (kind_at p) ≡ child
    split_old = by_order (child_of w p old (kind_at p) ≡ child) (λ k. two_first old child new entry k so sn fc) (λ k. two_second new entry old child k sn so fe (λ z. ne (sym z)))

    pub split_new : child_of w p new (kind_at p) ≡ entry
    split_new = by_order (child_of w p new (kind_at p) ≡ entry) (λ k. two_second old child new entry k so sn fc ne) (λ k. two_first new entry old child k sn so fe)

    pub split_other : (a : ℕ) → a ≢ old → a ≢ new → child_of w p a (kind_at p) ≡ 0
    split_other a apart further = by_order (child_of w p a (kind_at p) ≡ 0) (λ k. two_other old child new entry k so sn fc a (λ z. apart (sym z)) (λ z. further (sym z))) (λ k. two_other new entry old child k sn so fe a (λ z. further (sym z)) (λ z. apart (sym z)))
