-- What the words of cells hold: the bytes of a number, the halves of a pair, the bytes of a chain cell.
use Rattle.std.proofs.Common.{◌≡◌, ◌≢◌, ℕ, zero, suc, ◌+◌, ◌-◌, ◌*◌, ◌/◌, ◌%◌, ◌^◌, ◌<◌, ◌≤◌, ◌==◌, nat_le, Bool, true, false, cond, List, [], ◌∷◌, length, take, drop, map, slice_get, slice_index, Some, refl, sym, ap, ◌∙◌, subst, arith, le-leb, eq-eqb, ne_eqb, ⊎_elim}
use Rattle.std.proofs.lemmas.Bool.{cond_both, cond-true, cond-false, cases_eq}
use Rattle.std.proofs.lemmas.Option.{get_or_from_slice_get}
use Rattle.std.proofs.lemmas.List.{get_or-drop, get_or-take}
use Rattle.std.proofs.lemmas.List.FromFn.{get_or-map-range_with_len}
use Rattle.std.specs.List.{range_with_len}
use Rattle.cell_layout.specs.Words.{half_of, byte_of, ItemsAreBytes}
use Rattle.cell_layout.specs.Cells.{number_of_bytes, pair, chain_cell, padded, lone_word, lone_words}

-- an element of bytes is one
pub byte_there : (xs : List ℕ) (i b : ℕ) → ItemsAreBytes xs → slice_get xs i ≡ Some b → b < 256
byte_there xs i b h e = let is : slice_index xs i ≡ b = get_or_from_slice_get xs i b 0 e in let small : slice_index xs i < 256 = h i in omega arith

pub no_bytes : ItemsAreBytes []
no_bytes k = omega arith

pub bytes_taken : (n : ℕ) (xs : List ℕ) → ItemsAreBytes xs → ItemsAreBytes (take n xs)
bytes_taken zero xs h k = omega arith
bytes_taken (suc n) [] h k = omega arith
bytes_taken (suc n) (x ∷ xs) h zero = h 0
bytes_taken (suc n) (x ∷ xs) h (suc k) = bytes_taken n xs (λ i. h (suc i)) k

pub bytes_dropped : (n : ℕ) (xs : List ℕ) → ItemsAreBytes xs → ItemsAreBytes (drop n xs)
bytes_dropped n xs h k = subst (λ (x : ℕ). x < 256) (sym (get_or-drop n xs k 0)) (h (n + k))

pub bytes_mapped : (f : ℕ → ℕ) (a n : ℕ) → ((i : ℕ) → f i < 256) → ItemsAreBytes (map f (range_with_len a n))
bytes_mapped f a zero h k = omega arith
bytes_mapped f a (suc n) h zero = h a
bytes_mapped f a (suc n) h (suc k) = bytes_mapped f (a + 1) n h k

-- byte i + 1 of a number is byte i of the number without its first byte
byte_next : (b r i : ℕ) → b < 256 → i < 7 → byte_of (b + 256 * r) (suc i) ≡ byte_of r i
byte_next b r zero l k = let e : (b + 256 * r) / 2 ^ 8 % 256 ≡ r / 2 ^ 0 % 256 = omega arith in e
byte_next b r (suc zero) l k = let e : (b + 256 * r) / 2 ^ 16 % 256 ≡ r / 2 ^ 8 % 256 = omega arith in e
byte_next b r (suc (suc zero)) l k = let e : (b + 256 * r) / 2 ^ 24 % 256 ≡ r / 2 ^ 16 % 256 = omega arith in e
byte_next b r (suc (suc (suc zero))) l k = let e : (b + 256 * r) / 2 ^ 32 % 256 ≡ r / 2 ^ 24 % 256 = omega arith in e
byte_next b r (suc (suc (suc (suc zero)))) l k = let e : (b + 256 * r) / 2 ^ 40 % 256 ≡ r / 2 ^ 32 % 256 = omega arith in e
byte_next b r (suc (suc (suc (suc (suc zero))))) l k = let e : (b + 256 * r) / 2 ^ 48 % 256 ≡ r / 2 ^ 40 % 256 = omega arith in e
byte_next b r (suc (suc (suc (suc (suc (suc zero)))))) l k = let e : (b + 256 * r) / 2 ^ 56 % 256 ≡ r / 2 ^ 48 % 256 = omega arith in e
byte_next b r (suc (suc (suc (suc (suc (suc (suc i))))))) l k = absurd (omega arith)

byte_none : (i : ℕ) → i < 8 → byte_of 0 i ≡ 0
byte_none zero l = refl
byte_none (suc i) l = byte_next 0 0 i (omega arith) (omega arith) ∙ byte_none i (omega arith)

-- the bytes of the number that some bytes make
pub byte_of_number : (xs : List ℕ) (i : ℕ) → i < 8 → ItemsAreBytes xs → byte_of (number_of_bytes xs) i ≡ slice_index xs i
byte_of_number [] i l h = byte_none i l
byte_of_number (b ∷ bs) zero l h = let small : b < 256 = h 0 in let e : (b + 256 * number_of_bytes bs) / 2 ^ 0 % 256 ≡ b = omega arith in e
byte_of_number (b ∷ bs) (suc i) l h = byte_next b (number_of_bytes bs) i (h 0) (omega arith) ∙ byte_of_number bs i (omega arith) (λ k. h (suc k))

number_small : (xs : List ℕ) → length xs ≤ 4 → ItemsAreBytes xs → number_of_bytes xs < 2 ^ 32
number_small [] l h = omega arith
number_small (a ∷ []) l h = let x : a < 256 = h 0 in omega arith
number_small (a ∷ b ∷ []) l h = let x : a < 256 = h 0 in let y : b < 256 = h 1 in omega arith
number_small (a ∷ b ∷ c ∷ []) l h = let x : a < 256 = h 0 in let y : b < 256 = h 1 in let z : c < 256 = h 2 in omega arith
number_small (a ∷ b ∷ c ∷ d ∷ []) l h = let x : a < 256 = h 0 in let y : b < 256 = h 1 in let z : c < 256 = h 2 in let u : d < 256 = h 3 in omega arith
number_small (a ∷ b ∷ c ∷ d ∷ e ∷ xs) l h = absurd (omega arith)

-- the halves of a pair, and its four low bytes
pub pair_low : (low high : ℕ) → low < 2 ^ 32 → half_of (pair low high) false ≡ low
pair_low low high l = omega arith

pub pair_high : (low high : ℕ) → low < 2 ^ 32 → half_of (pair low high) true ≡ high
pair_high low high l = omega arith

pair_byte : (low high i : ℕ) → i < 4 → byte_of (pair low high) i ≡ byte_of low i
pair_byte low high zero l = let e : (high * 2 ^ 32 + low) / 2 ^ 0 % 256 ≡ low / 2 ^ 0 % 256 = omega arith in e
pair_byte low high (suc zero) l = let e : (high * 2 ^ 32 + low) / 2 ^ 8 % 256 ≡ low / 2 ^ 8 % 256 = omega arith in e
pair_byte low high (suc (suc zero)) l = let e : (high * 2 ^ 32 + low) / 2 ^ 16 % 256 ≡ low / 2 ^ 16 % 256 = omega arith in e
pair_byte low high (suc (suc (suc zero))) l = let e : (high * 2 ^ 32 + low) / 2 ^ 24 % 256 ≡ low / 2 ^ 24 % 256 = omega arith in e
pair_byte low high (suc (suc (suc (suc i)))) l = absurd (omega arith)

-- the bytes and the tail of a chain cell's words
module _ (bytes : List ℕ) (tail : ℕ) (small : ItemsAreBytes bytes) where
  part : (n d i : ℕ) → i < n → i < 8 → byte_of (number_of_bytes (take n (drop d bytes))) i ≡ slice_index bytes (d + i)
  part n d i l e = byte_of_number (take n (drop d bytes)) i e (bytes_taken n (drop d bytes) (bytes_dropped d bytes small)) ∙ (get_or-take n (drop d bytes) i 0 l ∙ get_or-drop d bytes i 0)

  in_word : (k i : ℕ) → 8 * k + i ≤ 27 → i < 8 → byte_of (slice_index (chain_cell bytes tail) k) i ≡ slice_index bytes (8 * k + i)
  in_word zero i l e = part 8 0 i e e
  in_word (suc zero) i l e = part 8 8 i e e
  in_word (suc (suc zero)) i l e = part 8 16 i e e
  in_word (suc (suc (suc zero))) i l e = pair_byte (number_of_bytes (take 4 (drop 24 bytes))) tail i (omega arith) ∙ part 4 24 i (omega arith) e
  in_word (suc (suc (suc (suc k)))) i l e = absurd (omega arith)

  pub byte_of_chain_cell : (o : ℕ) → o ≤ 27 → byte_of (slice_index (chain_cell bytes tail) (o / 8)) (o % 8) ≡ slice_index bytes o
  byte_of_chain_cell o l = let e : 8 * (o / 8) + o % 8 ≡ o = omega arith in in_word (o / 8) (o % 8) (omega arith) (omega arith) ∙ ap (λ (x : ℕ). slice_index bytes x) e

  pub tail_of_chain_cell : half_of (slice_index (chain_cell bytes tail) 3) true ≡ tail
  tail_of_chain_cell = pair_high (number_of_bytes (take 4 (drop 24 bytes))) tail (number_small (take 4 (drop 24 bytes)) (four (drop 24 bytes)) (bytes_taken 4 (drop 24 bytes) (bytes_dropped 24 bytes small)))
    where
      four : (xs : List ℕ) → length (take 4 xs) ≤ 4
      four [] = omega arith
      four (a ∷ []) = omega arith
      four (a ∷ b ∷ []) = omega arith
      four (a ∷ b ∷ c ∷ []) = omega arith
      four (a ∷ b ∷ c ∷ d ∷ xs) = omega arith

-- the bytes of a padded cell
pub bytes_padded : (bytes : List ℕ) → ItemsAreBytes bytes → ItemsAreBytes (padded bytes)
unfolding padded
bytes_padded bytes h = bytes_mapped (λ o. cond (nat_le 28 (o + length bytes)) (slice_index bytes (o + length bytes - 28)) 0) 0 28
    (λ o. cond_both (nat_le 28 (o + length bytes)) (slice_index bytes (o + length bytes - 28)) 0 (λ (x : ℕ). x < 256) (λ e. h (o + length bytes - 28)) (λ e. omega arith))

pub padded_byte : (bytes : List ℕ) (o : ℕ) → o ≤ 27 → 28 ≤ o + length bytes → slice_index (padded bytes) o ≡ slice_index bytes (o + length bytes - 28)
unfolding padded
padded_byte bytes o l e = get_or-map-range_with_len (λ o. cond (nat_le 28 (o + length bytes)) (slice_index bytes (o + length bytes - 28)) 0) 0 28 o o 0 (omega arith) (omega arith)
    ∙ cond-true (nat_le 28 (o + length bytes)) (slice_index bytes (o + length bytes - 28)) 0 (le-leb 28 (o + length bytes) e)

-- the fields of a cell with one pointer
pub lone_half : (i p n : ℕ) → p < 2 ^ 32 → i ≡ n → half_of (lone_word i p (n / 2)) (n % 2 == 1) ≡ p
lone_half i p n l e = subst (λ (x : ℕ). half_of (lone_word i p (x / 2)) (x % 2 == 1) ≡ p) e
    (ap (λ (x : ℕ). half_of x (i % 2 == 1)) (cond-true (i / 2 == i / 2) (cond (i % 2 == 1) (pair 0 p) p) 0 (eq-eqb (i / 2) (i / 2) refl)) ∙ by (i % 2 == 1))
  where
    by : (t : Bool) → half_of (cond t (pair 0 p) p) t ≡ p
    by true = omega arith
    by false = omega arith

pub other_half_of : (i p n : ℕ) → p < 2 ^ 32 → i ≢ n → half_of (lone_word i p (n / 2)) (n % 2 == 1) ≡ 0
other_half_of i p n l ne = ⊎_elim
    (λ (e : i / 2 ≡ n / 2). ap (λ (x : ℕ). half_of x (n % 2 == 1)) (cond-true (i / 2 == n / 2) (cond (i % 2 == 1) (pair 0 p) p) 0 (eq-eqb (i / 2) (n / 2) e))
    ∙ ⊎_elim (λ (a : i % 2 ≡ 1). let b : n % 2 ≢ 1 = λ z. ne (omega arith) in odd (i % 2 == 1) (n % 2 == 1) (eq-eqb (i % 2) 1 a) (ne_eqb (n % 2) 1 b))
    (λ (a : i % 2 ≢ 1). let b : n % 2 ≡ 1 = even a e in even_ (i % 2 == 1) (n % 2 == 1) (ne_eqb (i % 2) 1 a) (eq-eqb (n % 2) 1 b)) (cases_eq (i % 2) 1))
    (λ (d : i / 2 ≢ n / 2). ap (λ (x : ℕ). half_of x (n % 2 == 1)) (cond-false (i / 2 == n / 2) (cond (i % 2 == 1) (pair 0 p) p) 0 (ne_eqb (i / 2) (n / 2) d)) ∙ zero_half (n % 2 == 1)) (cases_eq (i / 2) (n / 2))
  where
    even : i % 2 ≢ 1 → i / 2 ≡ n / 2 → n % 2 ≡ 1
    even a e = ⊎_elim (λ (z : n % 2 ≡ 1). z) (λ (z : n % 2 ≢ 1). absurd (ne (omega arith))) (cases_eq (n % 2) 1)

    odd : (s t : Bool) → s ≡ true → t ≡ false → half_of (cond s (pair 0 p) p) t ≡ 0
    odd true false a b = omega arith
    odd true true a b = absurd (cc)
    odd false t a b = absurd (cc)

    even_ : (s t : Bool) → s ≡ false → t ≡ true → half_of (cond s (pair 0 p) p) t ≡ 0
    even_ false true a b = omega arith
    even_ false false a b = absurd (cc)
    even_ true t a b = absurd (cc)

    zero_half : (t : Bool) → half_of 0 t ≡ 0
    zero_half true = refl
    zero_half false = refl

pub by_index : (i p k : ℕ) → k < 4 → slice_index (lone_words i p) k ≡ lone_word i p k
by_index i p zero l = refl
by_index i p (suc zero) l = refl
by_index i p (suc (suc zero)) l = refl
by_index i p (suc (suc (suc zero))) l = refl
by_index i p (suc (suc (suc (suc k)))) l = absurd (omega arith)
