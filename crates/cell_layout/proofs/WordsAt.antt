-- The words of records and of chains by their places.
use Rattle.std.proofs.Common.{◌≡◌, ◌≢◌, ℕ, zero, suc, ◌+◌, ◌-◌, ◌*◌, ◌<◌, ◌≤◌, nat_le, cond, List, [], ◌∷◌, ◌++◌, length, take, drop, map, get_or, slice_get, Some, refl, sym, ap, ◌∙◌, arith, length-append, length-drop}
use Rattle.std.specs.List.{range_with_len}
use Rattle.std.proofs.lemmas.Bool.{cond_both}
use Rattle.std.proofs.lemmas.List.{drop_more, drop-drop}
use Rattle.std.proofs.lemmas.List.FromFn.{get_or-map-range_with_len, length-map-range_with_len}
use Rattle.std.proofs.lemmas.Option.{slice_get-get_or}
use Rattle.cell_layout.specs.Cells.{record_cells, number_of_bytes, value_word, record_words, chain_cell, padded, next_cell, chain_from}
use Rattle.cell_layout.proofs.CellBytes.{padded_byte}

-- a part of a list, element by element
next : (n d d' : ℕ) (xs : List ℕ) → d < length xs → d' ≡ d + 1 → take (suc n) (drop d xs) ≡ get_or xs d 0 ∷ take n (drop d' xs)
next n d d' xs l e = ap (λ (t : List ℕ). take (suc n) t) (drop_more xs d 0 l) ∙ ap (λ (i : ℕ). get_or xs d 0 ∷ take n (drop i xs)) (sym e)

pub eight_of : (xs : List ℕ) (d : ℕ) → d + 8 ≤ length xs
    → take 8 (drop d xs) ≡ get_or xs d 0 ∷ get_or xs (d + 1) 0 ∷ get_or xs (d + 2) 0 ∷ get_or xs (d + 3) 0 ∷ get_or xs (d + 4) 0 ∷ get_or xs (d + 5) 0 ∷ get_or xs (d + 6) 0 ∷ get_or xs (d + 7) 0 ∷ []
eight_of xs d l = let e0 = next 7 d (d + 1) xs (omega arith) refl in let e1 = next 6 (d + 1) (d + 2) xs (omega arith) (omega arith) in let e2 = next 5 (d + 2) (d + 3) xs (omega arith) (omega arith) in
    let e3 = next 4 (d + 3) (d + 4) xs (omega arith) (omega arith) in let e4 = next 3 (d + 4) (d + 5) xs (omega arith) (omega arith) in let e5 = next 2 (d + 5) (d + 6) xs (omega arith) (omega arith) in
    let e6 = next 1 (d + 6) (d + 7) xs (omega arith) (omega arith) in let e7 = next 0 (d + 7) (d + 8) xs (omega arith) (omega arith) in cc

length_padded : (bs : List ℕ) → length (padded bs) ≡ 28
unfolding padded
length_padded bs = length-map-range_with_len (λ (o : ℕ). cond (nat_le 28 (o + length bs)) (get_or bs (o + length bs - 28) 0) 0) 0 28

-- a byte before those of a padded cell
pub padded_zero : (bs : List ℕ) (o : ℕ) → o < 28 → o + length bs < 28 → get_or (padded bs) o 0 ≡ 0
unfolding padded
padded_zero bs o l e = get_or-map-range_with_len (λ (o : ℕ). cond (nat_le 28 (o + length bs)) (get_or bs (o + length bs - 28) 0) 0) 0 28 o o 0 l (omega arith)
    ∙ cond_both (nat_le 28 (o + length bs)) (get_or bs (o + length bs - 28) 0) 0 (λ (x : ℕ). x ≡ 0) (λ t. absurd (grind (arith, t))) (λ t. refl)

-- the number of eight bytes of a padded cell
pub padded_eight : (bs : List ℕ) (place r : ℕ) {a0 a1 a2 a3 a4 a5 a6 a7 : ℕ} → place < 3 → a0 ≡ get_or (padded bs) (8 * place) 0 → a1 ≡ get_or (padded bs) (8 * place + 1) 0 → a2 ≡ get_or (padded bs) (8 * place + 2) 0 → a3 ≡ get_or (padded bs) (8 * place + 3) 0
    → a4 ≡ get_or (padded bs) (8 * place + 4) 0 → a5 ≡ get_or (padded bs) (8 * place + 5) 0 → a6 ≡ get_or (padded bs) (8 * place + 6) 0 → a7 ≡ get_or (padded bs) (8 * place + 7) 0
    → r ≡ number_of_bytes (a0 ∷ a1 ∷ a2 ∷ a3 ∷ a4 ∷ a5 ∷ a6 ∷ a7 ∷ []) → r ≡ number_of_bytes (take 8 (drop (8 * place) (padded bs)))
padded_eight bs place r {a0} {a1} {a2} {a3} {a4} {a5} {a6} {a7} l e0 e1 e2 e3 e4 e5 e6 e7 h = h ∙ ap number_of_bytes (let long : 8 * place + 8 ≤ length (padded bs) = omega (arith, length_padded bs) in let e = eight_of (padded bs) (8 * place) long in
    let s : a0 ∷ a1 ∷ a2 ∷ a3 ∷ a4 ∷ a5 ∷ a6 ∷ a7 ∷ [] ≡ get_or (padded bs) (8 * place) 0 ∷ get_or (padded bs) (8 * place + 1) 0 ∷ get_or (padded bs) (8 * place + 2) 0 ∷ get_or (padded bs) (8 * place + 3) 0 ∷ get_or (padded bs) (8 * place + 4) 0 ∷ get_or (padded bs) (8 * place + 5) 0 ∷ get_or (padded bs) (8 * place + 6) 0 ∷ get_or (padded bs) (8 * place + 7) 0 ∷ [] = cc in s ∙ sym e)

-- eight of its zeros
pub padded_none : (bs : List ℕ) (place : ℕ) → place < 3 → 8 * place + 8 + length bs ≤ 28 → 0 ≡ number_of_bytes (take 8 (drop (8 * place) (padded bs)))
padded_none bs place l e = padded_eight bs place 0 l (sym (padded_zero bs (8 * place) (omega arith) (omega arith))) (sym (padded_zero bs (8 * place + 1) (omega arith) (omega arith))) (sym (padded_zero bs (8 * place + 2) (omega arith) (omega arith))) (sym (padded_zero bs (8 * place + 3) (omega arith) (omega arith)))
    (sym (padded_zero bs (8 * place + 4) (omega arith) (omega arith))) (sym (padded_zero bs (8 * place + 5) (omega arith) (omega arith))) (sym (padded_zero bs (8 * place + 6) (omega arith) (omega arith))) (sym (padded_zero bs (8 * place + 7) (omega arith) (omega arith))) refl

-- eight of its bytes
module _ (bs : List ℕ) (place d r : ℕ) (l : place < 3) (e : 28 ≤ 8 * place + length bs) (few : length bs ≤ 28) (is : d ≡ 8 * place + length bs - 28) where
  there : (i o j : ℕ) → i < 8 → o ≡ 8 * place + i → j ≡ d + i → get_or bs j 0 ≡ get_or (padded bs) o 0
  there i o j small at from = let z : j ≡ o + length bs - 28 = omega arith in ap (λ (k : ℕ). get_or bs k 0) z ∙ sym (padded_byte bs o (omega arith) (omega arith))

  pub padded_full : r ≡ number_of_bytes (take 8 (drop d bs)) → r ≡ number_of_bytes (take 8 (drop (8 * place) (padded bs)))
  padded_full h = padded_eight bs place r l (there 0 (8 * place) d (omega arith) (omega arith) (omega arith)) (there 1 (8 * place + 1) (d + 1) (omega arith) refl refl) (there 2 (8 * place + 2) (d + 2) (omega arith) refl refl) (there 3 (8 * place + 3) (d + 3) (omega arith) refl refl)
      (there 4 (8 * place + 4) (d + 4) (omega arith) refl refl) (there 5 (8 * place + 5) (d + 5) (omega arith) refl refl) (there 6 (8 * place + 6) (d + 6) (omega arith) refl refl) (there 7 (8 * place + 7) (d + 7) (omega arith) refl refl) (h ∙ ap number_of_bytes (eight_of bs d (omega arith)))

-- the four last bytes
pub padded_four : (bs : List ℕ) (r : ℕ) {a b c d : ℕ} → a ≡ get_or (padded bs) 24 0 → b ≡ get_or (padded bs) 25 0 → c ≡ get_or (padded bs) 26 0 → d ≡ get_or (padded bs) 27 0 → r ≡ number_of_bytes (a ∷ b ∷ c ∷ d ∷ []) → r ≡ number_of_bytes (take 4 (drop 24 (padded bs)))
padded_four bs r {a} {b} {c} {d} e0 e1 e2 e3 h = h ∙ ap number_of_bytes (let n0 = next 3 24 25 (padded bs) (omega (arith, length_padded bs)) refl in let n1 = next 2 25 26 (padded bs) (omega (arith, length_padded bs)) refl in
    let n2 = next 1 26 27 (padded bs) (omega (arith, length_padded bs)) refl in let n3 = next 0 27 28 (padded bs) (omega (arith, length_padded bs)) refl in
    let s : a ∷ b ∷ c ∷ d ∷ [] ≡ take 4 (drop 24 (padded bs)) = cc in s)

-- a word of a record after its head
pub record_at : (number : ℕ) (value : List ℕ) (i x : ℕ) → i ≢ 0 → i < 4 * record_cells (length value) → x ≡ value_word value (i - 1) → slice_get (record_words number value) i ≡ Some x
record_at number value zero x ne l e = absurd (ne refl)
record_at number value (suc i) x ne l e = let n : ℕ = 4 * record_cells (length value) - 1 in let z : suc i - 1 ≡ i = omega arith in
    slice_get-get_or (map (value_word value) (range_with_len 0 n)) i 0 (omega (arith, length-map-range_with_len (value_word value) 0 n))
    ∙ ap (λ (y : ℕ). Some y) (get_or-map-range_with_len (value_word value) 0 n i i 0 (omega arith) (omega arith) ∙ (ap (value_word value) (sym z) ∙ sym e))

module _ {A : Type 0} where
  pub get_left : (l m : List A) (i : ℕ) → i < length l → slice_get (l ++ m) i ≡ slice_get l i
  get_left [] m i e = absurd (omega arith)
  get_left (y ∷ ys) m zero e = refl
  get_left (y ∷ ys) m (suc i) e = get_left ys m i (omega arith)

  pub get_right : (l m : List A) (i j : ℕ) → i ≡ length l + j → slice_get (l ++ m) i ≡ slice_get m j
  get_right [] m i j e = let z : i ≡ j = omega arith in ap (λ (k : ℕ). slice_get m k) z
  get_right (y ∷ ys) m zero j e = absurd (omega arith)
  get_right (y ∷ ys) m (suc i) j e = get_right ys m i j (omega arith)

-- word k of cell j of a chain, with so many cells after it
pub chain_at : (f n j k start count after at : ℕ) (bytes : List ℕ) (end : ℕ) → j + after + 1 ≡ n → k < 4 → length bytes ≤ 28 * n → 28 * n ≤ length bytes + 27 → start ≡ length bytes - 28 * (after + 1) → count ≡ length bytes - 28 * after - start → at ≡ 4 * j + k
    → slice_get (chain_from f n bytes end) at ≡ slice_get (chain_cell (padded (take count (drop start bytes))) (next_cell (f + j) after end)) k
chain_at f zero j k start count after at bytes end split small least most starts counts is = absurd (omega arith)
chain_at f (suc m) zero k start count after at bytes end split small least most starts counts is =
    let e1 : at ≡ k = omega arith in let e2 : length bytes - 28 * m ≡ count = omega arith in let e3 : 0 ≡ start = omega arith in let e4 : m ≡ after = omega arith in let e5 : f ≡ f + 0 = omega arith in
    get_left (chain_cell (padded (take (length bytes - 28 * m) bytes)) (next_cell f m end)) (chain_from (f + 1) m (drop (length bytes - 28 * m) bytes) end) at (omega arith)
    ∙ (ap (λ (i : ℕ). slice_get (chain_cell (padded (take (length bytes - 28 * m) bytes)) (next_cell f m end)) i) e1
    ∙ (ap (λ (i : ℕ). slice_get (chain_cell (padded (take i bytes)) (next_cell f m end)) k) e2
    ∙ (ap (λ (i : ℕ). slice_get (chain_cell (padded (take count (drop i bytes))) (next_cell f m end)) k) e3
    ∙ (ap (λ (i : ℕ). slice_get (chain_cell (padded (take count (drop start bytes))) (next_cell f i end)) k) e4
    ∙ ap (λ (i : ℕ). slice_get (chain_cell (padded (take count (drop start bytes))) (next_cell i after end)) k) e5))))
chain_at f (suc m) (suc i) k start count after at bytes end split small least most starts counts is =
    let d : ℕ = length bytes - 28 * m in let long : length (drop d bytes) ≡ 28 * m = omega (arith, length-drop d bytes) in let e1 : d + (start - d) ≡ start = omega arith in let e2 : f + 1 + i ≡ f + suc i = omega arith in
    get_right (chain_cell (padded (take d bytes)) (next_cell f m end)) (chain_from (f + 1) m (drop d bytes) end) at (at - 4) (omega arith)
    ∙ (chain_at (f + 1) m i k (start - d) count after (at - 4) (drop d bytes) end (omega arith) small (omega arith) (omega arith) (omega arith) (omega arith) (omega arith)
    ∙ (ap (λ (l : List ℕ). slice_get (chain_cell (padded (take count l)) (next_cell (f + 1 + i) after end)) k) (drop-drop (start - d) d bytes ∙ ap (λ (s : ℕ). drop s bytes) e1)
    ∙ ap (λ (c : ℕ). slice_get (chain_cell (padded (take count (drop start bytes))) (next_cell c after end)) k) e2))

pub next_last : (f n end : ℕ) → n ≡ 0 → end ≡ next_cell f n end
next_last f zero end e = refl
next_last f (suc n) end e = absurd (omega arith)

pub next_other : (f n end : ℕ) → n ≢ 0 → 32 * (f + 1) ≡ next_cell f n end
next_other f zero end ne = absurd (ne refl)
next_other f (suc n) end ne = refl

-- the words of a record and of a chain
pub length_record_words : (number : ℕ) (value : List ℕ) → length (record_words number value) ≡ 4 * record_cells (length value)
length_record_words number value = omega (arith, length-map-range_with_len (value_word value) 0 (4 * record_cells (length value) - 1))

pub length_chain : (f n : ℕ) (bytes : List ℕ) (end : ℕ) → length (chain_from f n bytes end) ≡ 4 * n
length_chain f zero bytes end = refl
length_chain f (suc n) bytes end = let rest : List ℕ = chain_from (f + 1) n (drop (length bytes - 28 * n) bytes) end in let cell : List ℕ = chain_cell (padded (take (length bytes - 28 * n) bytes)) (next_cell f n end) in
    let four : length cell ≡ 4 = refl in omega (arith, length-append cell rest, length_chain (f + 1) n (drop (length bytes - 28 * n) bytes) end, four)
