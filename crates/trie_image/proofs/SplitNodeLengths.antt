-- Steps of the loops that make the cells of a split node, which have room among sixty words.
use Rattle.std.proofs.Common.{◌≡◌, ℕ, ◌+◌, ◌*◌, ◌≤◌, true, false, List, ◌++◌, length, refl, ap, ◌∙◌, arith, length-append}
use Rattle.cell_layout.specs.Cells.{eight}
use Rattle.trie_image.specs.Body.{has_mid, has_leaf, top_words, mid_field, leaf_field, mid_words, leaf_words}
use Rattle.trie_image.proofs.BodyLemmas.{mid_words_more, leaf_words_more, cell_there, cell_absent}
use Rattle.trie_image.proofs.BodyLengths.{length_mids, length_leaves}

-- one more leaf cell, or none
module _ (w : List ℕ) (node b entry : ℕ) (bytes out start : List ℕ) (g : ℕ) (made : out ≡ start ++ leaf_words w node b entry bytes g) where
  pub leaf_made : (new cell : List ℕ) → new ≡ out ++ cell → cell ≡ eight (leaf_field w node b entry) (8 * g) → true ≡ has_leaf bytes g → new ≡ start ++ leaf_words w node b entry bytes (g + 1)
  leaf_made new cell e is t = cell_there new out start (leaf_words w node b entry bytes g) (eight (leaf_field w node b entry) (8 * g)) (leaf_words w node b entry bytes (g + 1)) (e ∙ ap (λ (l : List ℕ). out ++ l) is) made (leaf_words_more w node b entry bytes g true t)

  pub leaf_none : (new : List ℕ) → new ≡ out → false ≡ has_leaf bytes g → new ≡ start ++ leaf_words w node b entry bytes (g + 1)
  leaf_none new e t = e ∙ cell_absent out start (leaf_words w node b entry bytes g) (leaf_words w node b entry bytes (g + 1)) made (leaf_words_more w node b entry bytes g false t)

-- and there is room for it
pub leaf_room : (w : List ℕ) (node b entry : ℕ) (bytes out start : List ℕ) (g : ℕ) → out ≡ start ++ leaf_words w node b entry bytes g → length start ≤ 32 → length bytes ≡ 7 → true ≡ has_leaf bytes g → length out + 4 ≤ 60
leaf_room w node b entry bytes out start g e capacity seven t = let four : length (eight (leaf_field w node b entry) (8 * g)) ≡ 4 = refl in
    omega (arith, ap (λ (l : List ℕ). length l) e, length-append start (leaf_words w node b entry bytes g), ap (λ (l : List ℕ). length l) (leaf_words_more w node b entry bytes g true t), length-append (leaf_words w node b entry bytes g) (eight (leaf_field w node b entry) (8 * g)), length_leaves w node b entry bytes (g + 1), four, capacity, seven)

-- one more mid cell
pub mid_room : (bytes out start : List ℕ) (x i : ℕ) → out ≡ start ++ mid_words bytes x i → length start ≤ 32 → length bytes ≡ 7 → true ≡ has_mid bytes i → length out + 4 ≤ 60
mid_room bytes out start x i e capacity seven t = let four : length (eight (mid_field bytes x) (8 * i)) ≡ 4 = refl in
    omega (arith, ap (λ (l : List ℕ). length l) e, length-append start (mid_words bytes x i), ap (λ (l : List ℕ). length l) (mid_words_more bytes x i true t), length-append (mid_words bytes x i) (eight (mid_field bytes x) (8 * i)), length_mids bytes x (i + 1), four, capacity, seven)

-- the leaf cells, after the top and the mid cells
pub leaves_room : (bytes start top after more : List ℕ) (x n : ℕ) → length start ≡ 0 → top ≡ top_words bytes x → after ≡ start ++ top → more ≡ after ++ mid_words bytes x n → length bytes ≡ 7 → length more ≤ 32
leaves_room bytes start top after more x n none is e h seven = let four : length (top_words bytes x) ≡ 4 = refl in
    omega (arith, ap (λ (l : List ℕ). length l) is, ap (λ (l : List ℕ). length l) e, ap (λ (l : List ℕ). length l) h, length-append start top, length-append after (mid_words bytes x n), length_mids bytes x n, four, none, seven)
