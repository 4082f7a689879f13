-- The words after the stores into new cells.
use Rattle.std.proofs.Common.{◌≡◌, ℕ, zero, suc, ◌+◌, ◌*◌, ◌<◌, ◌≤◌, List, [], ◌∷◌, ◌++◌, length, set, slice_index, refl, ap, ◌∙◌, arith, length-set, get_or-set_other, get_or-set_same}
use Rattle.trie_image.specs.declared.WordStore.{WordStore}
use Rattle.trie_image.specs.Stores.{prepares}
use Rattle.trie_image.specs.After.{after}
use Rattle.trie_image.proofs.CellWords.{Stands}

pub after_append : (w : List ℕ) (a b : List WordStore) → after w (a ++ b) ≡ after (after w a) b
after_append w [] b = refl
after_append w (s ∷ a) b = after_append (set w s.word s.value) a b

-- there are as many as before
pub length-after : (w : List ℕ) (stores : List WordStore) → length (after w stores) ≡ length w
length-after w [] = refl
length-after w (s ∷ stores) = length-after (set w s.word s.value) stores ∙ length-set w s.word s.value

pub length-prepared : (w : List ℕ) (at : ℕ) (ws : List ℕ) → length (after w (prepares at ws)) ≡ length w
length-prepared w at ws = length-after w (prepares at ws)

-- words before them stay
pub before_prepared : (w : List ℕ) (at i : ℕ) (ws : List ℕ) → i < at → slice_index (after w (prepares at ws)) i ≡ slice_index w i
before_prepared w at i [] l = refl
before_prepared w at i (x ∷ xs) l = before_prepared (set w at x) (at + 1) i xs (omega arith) ∙ get_or-set_other w at i x 0 (λ z. omega arith)

-- and they stand
pub prepared : (w : List ℕ) (at i : ℕ) (ws : List ℕ) → i < length ws → at + length ws ≤ length w → slice_index (after w (prepares at ws)) (at + i) ≡ slice_index ws i
prepared w at i [] l capacity = absurd (omega arith)
prepared w at zero (x ∷ xs) l capacity = let z : at + 0 ≡ at = omega arith in ap (λ (k : ℕ). slice_index (after w (prepares at (x ∷ xs))) k) z ∙ (before_prepared (set w at x) (at + 1) at xs (omega arith) ∙ get_or-set_same w at x 0 (omega arith))
prepared w at (suc i) (x ∷ xs) l capacity = let z : at + suc i ≡ at + 1 + i = omega arith in ap (λ (k : ℕ). slice_index (after w (prepares at (x ∷ xs))) k) z ∙ prepared (set w at x) (at + 1) i xs (omega arith) (omega (arith, length-set w at x))

-- the words of new cells, from a cell on
pub cells_stand : (w : List ℕ) (c : ℕ) (ws : List ℕ) → 4 * c + length ws ≤ length w → Stands (after w (prepares (4 * c) ws)) c ws
cells_stand w c ws capacity i l = prepared w (4 * c) i ws l capacity
