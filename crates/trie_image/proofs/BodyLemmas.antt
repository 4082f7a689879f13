-- Steps of the loops that make the words of a put's cells.
use Rattle.std.proofs.Common.{◌≡◌, ◌≢◌, ℕ, zero, suc, ◌+◌, ◌*◌, Bool, true, false, cond, List, [], ◌∷◌, ◌++◌, filter, count_by, refl, sym, ap, ◌∙◌, arith, append_assoc, append-nil, add-one, get_or, replicate, ◌==◌, ne_eqb}
use Rattle.std.proofs.lemmas.Bool.{cond-false}
use Rattle.std.proofs.lemmas.List.Sums.{sum_by-append}
use Rattle.std.proofs.lemmas.List.Elements.{filter-append}
use Rattle.std.proofs.lemmas.Grind.{flat_map-append}
use Rattle.std.specs.List.{range_with_len, flat_map}
use Rattle.cell_layout.proofs.Inserted.{range_more}
use Rattle.cell_layout.specs.Cells.{chain_cell, eight}
use Rattle.trie_image.specs.declared.exit.Stand.{Stand}
use Rattle.trie_image.specs.Body.{passed_bytes, passed_words, has_mid, has_leaf, mids_below, leaves_below, mid_field, leaf_field, mid_words, leaf_words}

pub zeros : (n i : ℕ) → ◌≡◌ {A = ℕ} (get_or (replicate n 0) i 0) 0
zeros zero i = refl
zeros (suc n) zero = refl
zeros (suc n) (suc i) = zeros n i

-- the cell for passed bytes, where there are any
pub passed_there : (w : List ℕ) (s : Stand) (end : ℕ) (bytes : List ℕ) → s.at ≢ s.entered → bytes ≡ passed_bytes w s → chain_cell bytes end ≡ passed_words w s end
passed_there w s end bytes ne e = ap (λ (x : List ℕ). chain_cell x end) e ∙ sym (cond-false (s.at == s.entered) [] (chain_cell (passed_bytes w s) end) (ne_eqb s.at s.entered ne))

range_next : (i : ℕ) → range_with_len 0 (i + 1) ≡ range_with_len 0 i ++ i ∷ []
range_next i = let z : 0 + i ≡ i = omega arith in ap (λ (n : ℕ). range_with_len 0 n) (add-one i) ∙ (range_more 0 i ∙ ap (λ (x : ℕ). range_with_len 0 i ++ x ∷ []) z)

-- one more number that passes a test or not
count_more : (p : ℕ → Bool) (i : ℕ) → count_by p (range_with_len 0 (i + 1)) ≡ count_by p (range_with_len 0 i) + cond (p i) 1 0
count_more p i = ap (λ (l : List ℕ). count_by p l) (range_next i) ∙ (sum_by-append (λ (x : ℕ). cond (p x) 1 0) (range_with_len 0 i) (i ∷ []) ∙ (let z : 0 + cond (p i) 1 0 ≡ cond (p i) 1 0 = omega arith in ap (λ (n : ℕ). count_by p (range_with_len 0 i) + n) z))

counted : (p : ℕ → Bool) (i : ℕ) (b : Bool) → b ≡ p i → count_by p (range_with_len 0 (i + 1)) ≡ count_by p (range_with_len 0 i) + cond b 1 0
counted p i b e = count_more p i ∙ ap (λ (t : Bool). count_by p (range_with_len 0 i) + cond t 1 0) (sym e)

pub mids_more : (bytes : List ℕ) (i : ℕ) (b : Bool) → b ≡ has_mid bytes i → mids_below bytes (i + 1) ≡ mids_below bytes i + cond b 1 0
unfolding mids_below
mids_more bytes i b e = counted (has_mid bytes) i b e

pub leaves_more : (bytes : List ℕ) (g : ℕ) (b : Bool) → b ≡ has_leaf bytes g → leaves_below bytes (g + 1) ≡ leaves_below bytes g + cond b 1 0
unfolding leaves_below
leaves_more bytes g b e = counted (has_leaf bytes) g b e

-- one more cell of those that pass a test
module _ (f : ℕ → List ℕ) (p : ℕ → Bool) where
  passing : (i : ℕ) → filter p (range_with_len 0 (i + 1)) ≡ filter p (range_with_len 0 i) ++ cond (p i) (i ∷ []) []
  passing i = ap (λ (l : List ℕ). filter p l) (range_next i) ∙ filter-append p (range_with_len 0 i) (i ∷ [])

  cells_if : (b : Bool) (i : ℕ) → flat_map f (cond b (i ∷ []) []) ≡ cond b (f i) []
  cells_if true i = append-nil (f i)
  cells_if false i = refl

  cells_more : (b : Bool) (i : ℕ) → b ≡ p i → flat_map f (filter p (range_with_len 0 (i + 1))) ≡ flat_map f (filter p (range_with_len 0 i)) ++ cond b (f i) []
  cells_more b i e = ap (λ (l : List ℕ). flat_map f l) (passing i) ∙ (flat_map-append f (filter p (range_with_len 0 i)) (cond (p i) (i ∷ []) []) ∙ ap (λ (l : List ℕ). flat_map f (filter p (range_with_len 0 i)) ++ l) (ap (λ (t : Bool). flat_map f (cond t (i ∷ []) [])) (sym e) ∙ cells_if b i))

pub mid_words_more : (bytes : List ℕ) (x i : ℕ) (b : Bool) → b ≡ has_mid bytes i → mid_words bytes x (i + 1) ≡ mid_words bytes x i ++ cond b (eight (mid_field bytes x) (8 * i)) []
unfolding mid_words
mid_words_more bytes x i b e = cells_more (λ (k : ℕ). eight (mid_field bytes x) (8 * k)) (has_mid bytes) b i e

pub leaf_words_more : (w : List ℕ) (node b entry : ℕ) (bytes : List ℕ) (g : ℕ) (t : Bool) → t ≡ has_leaf bytes g → leaf_words w node b entry bytes (g + 1) ≡ leaf_words w node b entry bytes g ++ cond t (eight (leaf_field w node b entry) (8 * g)) []
unfolding leaf_words
leaf_words_more w node b entry bytes g t e = cells_more (λ (k : ℕ). eight (leaf_field w node b entry) (8 * k)) (has_leaf bytes) t g e

-- the words after a step of such a loop
pub cell_there : (new out start words cell after : List ℕ) → new ≡ out ++ cell → out ≡ start ++ words → after ≡ words ++ cell → new ≡ start ++ after
cell_there new out start words cell after e h is = e ∙ (ap (λ (x : List ℕ). x ++ cell) h ∙ (append_assoc start words cell ∙ ap (λ (x : List ℕ). start ++ x) (sym is)))

pub cell_absent : (out start words after : List ℕ) → out ≡ start ++ words → after ≡ words ++ [] → out ≡ start ++ after
cell_absent out start words after h is = h ∙ ap (λ (x : List ℕ). start ++ x) (sym (append-nil words) ∙ sym is)

pub mids_none : (bytes : List ℕ) → 0 ≡ mids_below bytes 0
unfolding mids_below
mids_none bytes = refl

pub leaves_none : (bytes : List ℕ) → 0 ≡ leaves_below bytes 0
unfolding leaves_below
leaves_none bytes = refl

pub mid_words_none : (out : List ℕ) (bytes : List ℕ) (x : ℕ) → out ≡ out ++ mid_words bytes x 0
unfolding mid_words
mid_words_none out bytes x = sym (append-nil out)

pub leaf_words_none : (out : List ℕ) (w : List ℕ) (node b entry : ℕ) (bytes : List ℕ) → out ≡ out ++ leaf_words w node b entry bytes 0
unfolding leaf_words
leaf_words_none out w node b entry bytes = sym (append-nil out)
