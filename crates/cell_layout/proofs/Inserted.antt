-- A slot put among the slots of a node, at its byte's place.
use Rattle.std.proofs.Common.{◌≡◌, ◌≢◌, ℕ, zero, suc, ◌+◌, ◌<◌, nat_lt, Bool, true, false, cond, List, [], ◌∷◌, ◌++◌, length, map, refl, sym, ap, ◌∙◌, arith}
use Rattle.std.proofs.lemmas.Bool.{cond_both, ltb-true, ltb-false}
use Rattle.std.specs.List.{range_with_len}
use Rattle.std.specs.List.Sorted.{IsPermutation}
use Rattle.std.proofs.lemmas.List.Sorted.{IsPermutation-refl, IsPermutation-cons, IsPermutation-trans, IsPermutation-append_left, IsPermutation-append_comm}
use Rattle.cell_layout.specs.Words.{byte_of}
use Rattle.cell_layout.specs.Slots.{insert_slot, Ascends}
use Rattle.cell_layout.proofs.Digits.{AreDigits}

module _ (w b n : ℕ) where
  pub length-insert_slot : (ds : List ℕ) → length (insert_slot w b n ds) ≡ suc (length ds)
  length-insert_slot [] = refl
  length-insert_slot (d ∷ ds) = cond_both (nat_lt b (byte_of w d)) (n ∷ d ∷ ds) (d ∷ insert_slot w b n ds) (λ (l : List ℕ). length l ≡ suc (suc (length ds))) (λ _. refl) (λ _. ap (λ (x : ℕ). suc x) (length-insert_slot ds))

  pub permutes : (ds : List ℕ) → IsPermutation (n ∷ ds) (insert_slot w b n ds)
  permutes [] = IsPermutation-refl (n ∷ [])
  permutes (d ∷ ds) = cond_both (nat_lt b (byte_of w d)) (n ∷ d ∷ ds) (d ∷ insert_slot w b n ds) (λ (l : List ℕ). IsPermutation (n ∷ d ∷ ds) l) (λ _. IsPermutation-refl (n ∷ d ∷ ds))
      (λ _. IsPermutation-trans (n ∷ d ∷ ds) (d ∷ n ∷ ds) (d ∷ insert_slot w b n ds) (IsPermutation-append_left ds (n ∷ d ∷ []) (d ∷ n ∷ []) (IsPermutation-append_comm (n ∷ []) (d ∷ []))) (IsPermutation-cons d (n ∷ ds) (insert_slot w b n ds) (permutes ds)))

  -- digits stay digits
  more : (d : ℕ) (l : List ℕ) → d < 6 → l ≢ [] → AreDigits l → AreDigits (d ∷ l)
  more d [] s ne h = absurd (ne refl)
  more d (e ∷ l) s ne h = (s, h)

  first_digit : (d : ℕ) (ds : List ℕ) → AreDigits (d ∷ ds) → d < 6
  first_digit d [] h = h.0
  first_digit d (e ∷ ds) h = h.0

  later_digits : (d : ℕ) (ds : List ℕ) → AreDigits (d ∷ ds) → AreDigits ds
  later_digits d [] h = tt
  later_digits d (e ∷ ds) h = h.1

  pub digits-insert_slot : (ds : List ℕ) → n < 6 → n ≢ 0 → AreDigits ds → AreDigits (insert_slot w b n ds)
  digits-insert_slot [] s ne h = (s, ne)
  digits-insert_slot (d ∷ ds) s ne h = cond_both (nat_lt b (byte_of w d)) (n ∷ d ∷ ds) (d ∷ insert_slot w b n ds) AreDigits (λ _. (s, h))
      (λ _. more d (insert_slot w b n ds) (first_digit d ds h) (λ e. let k : suc (length ds) ≡ 0 = sym (length-insert_slot ds) ∙ ap (λ (l : List ℕ). length l) e in omega arith) (digits-insert_slot ds s ne (later_digits d ds h)))

-- a byte put at its place among ascending bytes
abbrev pub insert_byte : ℕ → List ℕ → List ℕ
insert_byte b [] = b ∷ []
insert_byte b (x ∷ xs) = cond (nat_lt b x) (b ∷ x ∷ xs) (x ∷ insert_byte b xs)

abbrev pub Lacks : ℕ → List ℕ → Type 0
Lacks b [] = Unit {0}
Lacks b (x ∷ xs) = (x ≢ b) × Lacks b xs

-- the bytes of the slots after the insertion, read in the new word, are the old ones with the new byte at its place
abbrev pub SameBytes : ℕ → ℕ → List ℕ → Type 0
SameBytes w v [] = Unit {0}
SameBytes w v (d ∷ ds) = (byte_of v d ≡ byte_of w d) × SameBytes w v ds

pub same_map : (w v : ℕ) (ds : List ℕ) → SameBytes w v ds → map (byte_of v) ds ≡ map (byte_of w) ds
same_map w v [] h = refl
same_map w v (d ∷ ds) h = let e = h.0 in let rest = same_map w v ds h.1 in cc

pub map-insert_slot : (w v b n : ℕ) (ds : List ℕ) → byte_of v n ≡ b → SameBytes w v ds → map (byte_of v) (insert_slot w b n ds) ≡ insert_byte b (map (byte_of w) ds)
map-insert_slot w v b n [] e h = ap (λ (x : ℕ). x ∷ []) e
map-insert_slot w v b n (d ∷ ds) e h = by (nat_lt b (byte_of w d)) (same_map w v (d ∷ ds) h) (map-insert_slot w v b n ds e h.1)
  where
    by : (t : Bool) → map (byte_of v) (d ∷ ds) ≡ map (byte_of w) (d ∷ ds) → map (byte_of v) (insert_slot w b n ds) ≡ insert_byte b (map (byte_of w) ds)
        → map (byte_of v) (cond t (n ∷ d ∷ ds) (d ∷ insert_slot w b n ds)) ≡ cond t (b ∷ map (byte_of w) (d ∷ ds)) (byte_of w d ∷ insert_byte b (map (byte_of w) ds))
    by true all rest = ap (λ (x : ℕ). x ∷ map (byte_of v) (d ∷ ds)) e ∙ ap (λ (l : List ℕ). b ∷ l) all
    by false all rest = ap (λ (x : ℕ). x ∷ map (byte_of v) (insert_slot w b n ds)) h.0 ∙ ap (λ (l : List ℕ). byte_of w d ∷ l) rest

-- a lesser byte before ascending ones, where the first of them is known
below_inserted : (x b y : ℕ) (ys : List ℕ) → x < b → x < y → Ascends (insert_byte b (y ∷ ys)) → Ascends (x ∷ insert_byte b (y ∷ ys))
below_inserted x b y ys l k h = cond_both (nat_lt b y) (b ∷ y ∷ ys) (y ∷ insert_byte b ys) (λ (s : List ℕ). Ascends s → Ascends (x ∷ s)) (λ _ h. (l, h)) (λ _ h. (k, h)) h

pub ascends-insert_byte : (b : ℕ) (xs : List ℕ) → Lacks b xs → Ascends xs → Ascends (insert_byte b xs)
ascends-insert_byte b [] n h = tt
ascends-insert_byte b (x ∷ []) n h = cond_both (nat_lt b x) (b ∷ x ∷ []) (x ∷ b ∷ []) Ascends (λ t. (ltb-true b x t, tt)) (λ t. (let ne = n.0 in let le = ltb-false b x t in omega arith, tt))
ascends-insert_byte b (x ∷ y ∷ ys) n h = cond_both (nat_lt b x) (b ∷ x ∷ y ∷ ys) (x ∷ insert_byte b (y ∷ ys)) Ascends (λ t. (ltb-true b x t, h))
    (λ t. below_inserted x b y ys (let ne = n.0 in let le = ltb-false b x t in omega arith) h.0 (ascends-insert_byte b (y ∷ ys) n.1 h.1))

-- the numbers from 0 on, one more
pub range_more : (a n : ℕ) → range_with_len a (suc n) ≡ range_with_len a n ++ (a + n) ∷ []
range_more a zero = let e : a ≡ a + 0 = omega arith in ap (λ (x : ℕ). x ∷ []) e
range_more a (suc n) = let e : a + 1 + n ≡ a + suc n = omega arith in ap (λ (l : List ℕ). a ∷ l) (range_more (a + 1) n ∙ ap (λ (x : ℕ). range_with_len (a + 1) n ++ x ∷ []) e)
