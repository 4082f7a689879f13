-- What the words of new cells hold: the bytes of a number, the halves of a pair, the fields of a cell where its words stand.
use Rattle.std.proofs.Common.{◌≡◌, ◌≢◌, ℕ, zero, suc, ◌+◌, ◌-◌, ◌*◌, ◌/◌, ◌%◌, ◌^◌, ◌<◌, ◌≤◌, ◌==◌, nat_le, Bool, true, false, cond, List, [], ◌∷◌, ◌++◌, length, take, drop, map, slice_get, slice_index, Some, refl, sym, ap, ◌∙◌, subst, arith, le-leb, length-append, eq-eqb, ne_eqb, ⊎_elim}
use Rattle.std.proofs.lemmas.Bool.{cond_both, cond-true, cond-false, cases_eq}
use Rattle.std.proofs.lemmas.Option.{get_or_from_slice_get}
use Rattle.std.proofs.Math.Nat.{mod-lt}
use Rattle.std.proofs.lemmas.List.{get_or_append_left, get_or-append-add, get_or-drop, get_or-take}
use Rattle.std.proofs.lemmas.List.FromFn.{get_or-map-range_with_len}
use Rattle.std.specs.List.{range_with_len}
use Rattle.cell_layout.proofs.CellBytes.{bytes_mapped, lone_half, other_half_of, by_index}
use Rattle.cell_layout.specs.Words.{half_of, ItemsAreBytes}
use Rattle.cell_layout.specs.Cells.{lone_word, lone_words}
use Rattle.trie_image.specs.declared.exit.Stand.{Stand}
use Rattle.trie_image.specs.Image.{field, cell_byte}
use Rattle.trie_image.specs.Body.{passed_bytes}

-- the words stand from the cell on
abbrev pub Stands : List ℕ → ℕ → List ℕ → Type 0
Stands w c ws = (i : ℕ) → i < length ws → slice_index w (4 * c + i) ≡ slice_index ws i

pub stands_front : (w : List ℕ) (c : ℕ) (a b : List ℕ) → Stands w c (a ++ b) → Stands w c a
stands_front w c a b h i l = h i (omega (arith, length-append a b)) ∙ get_or_append_left a b 0 i l

pub stands_back : (w : List ℕ) (c n : ℕ) (a b : List ℕ) → length a ≡ 4 * n → Stands w c (a ++ b) → Stands w (c + n) b
stands_back w c n a b e h i l = let at : 4 * (c + n) + i ≡ 4 * c + (length a + i) = omega arith in
    ap (λ (x : ℕ). slice_index w x) at ∙ (h (length a + i) (omega (arith, length-append a b)) ∙ get_or-append-add a b i 0)

-- the bytes of the cell for passed bytes
pub bytes_passed : (w : List ℕ) (s : Stand) → ItemsAreBytes (passed_bytes w s)
unfolding passed_bytes
bytes_passed w s = bytes_mapped (λ o. cond (nat_le 28 (o + (s.at - s.entered))) (cell_byte w (s.at / 32) (s.at % 32 + o - 28)) 0) 0 28
    (λ o. cond_both (nat_le 28 (o + (s.at - s.entered))) (cell_byte w (s.at / 32) (s.at % 32 + o - 28)) 0 (λ (x : ℕ). x < 256) (λ e. mod-lt _ (omega arith)) (λ e. omega arith))

pub passed_byte : (w : List ℕ) (s : Stand) (o : ℕ) → o ≤ 27 → 28 ≤ o + (s.at - s.entered) → slice_index (passed_bytes w s) o ≡ cell_byte w (s.at / 32) (s.at % 32 + o - 28)
unfolding passed_bytes
passed_byte w s o l e = get_or-map-range_with_len (λ o. cond (nat_le 28 (o + (s.at - s.entered))) (cell_byte w (s.at / 32) (s.at % 32 + o - 28)) 0) 0 28 o o 0 (omega arith) (omega arith)
    ∙ cond-true (nat_le 28 (o + (s.at - s.entered))) (cell_byte w (s.at / 32) (s.at % 32 + o - 28)) 0 (le-leb 28 (o + (s.at - s.entered)) e)

-- a field of a cell whose words stand
pub field_stands : (w : List ℕ) (c : ℕ) (ws : List ℕ) (i : ℕ) → Stands w c ws → i / 2 < length ws → field w c i ≡ half_of (slice_index ws (i / 2)) (i % 2 == 1)
field_stands w c ws i h l = ap (λ (x : ℕ). half_of x (i % 2 == 1)) (h (i / 2) l)

module _ (w : List ℕ) (c i p : ℕ) (h : Stands w c (lone_words i p)) (fits : p < 2 ^ 32) where
  word_is : (n : ℕ) → n < 8 → field w c n ≡ half_of (lone_word i p (n / 2)) (n % 2 == 1)
  word_is n l = let four : length (lone_words i p) ≡ 4 = refl in field_stands w c (lone_words i p) n h (omega arith) ∙ ap (λ (x : ℕ). half_of x (n % 2 == 1)) (by_index i p (n / 2) (omega arith))

  pub lone_field : (n : ℕ) → n < 8 → i ≡ n → field w c n ≡ p
  lone_field n l e = word_is n l ∙ lone_half i p n fits e

  pub lone_other : (n : ℕ) → n < 8 → i ≢ n → field w c n ≡ 0
  lone_other n l ne = word_is n l ∙ other_half_of i p n fits ne
