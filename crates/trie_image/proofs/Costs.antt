-- The cells that a put takes are at most its cost.
use Rattle.std.proofs.Common.{◌≡◌, ℕ, zero, suc, ◌+◌, ◌≤◌, ◌==◌, ◌||◌, Bool, true, false, cond, List, [], ◌∷◌, length, filter, refl, sym, subst, arith, eqb-true, ne_eqb}
use Rattle.std.specs.List.{range_with_len, list_any}

module _ (f : ℕ → ℕ) where
  -- the places of a range from a on at which some number of a list is sent there
  abbrev hit : List ℕ → ℕ → Bool
  hit bytes i = list_any (λ b. f b == i) bytes

  -- one number is sent to one place
  lone_hit : (b a n : ℕ) → length (filter (λ i. f b == i) (range_with_len a n)) ≤ 1
  lone_hit b a zero = omega arith
  lone_hit b a (suc n) = by (f b == a) refl (lone_hit b (a + 1) n)
    where
      none_after : (c m : ℕ) → f b + 1 ≤ c → length (filter (λ i. f b == i) (range_with_len c m)) ≡ 0
      none_after c zero l = refl
      none_after c (suc m) l = subst (λ (t : Bool). length (cond t (c ∷ filter (λ i. f b == i) (range_with_len (c + 1) m)) (filter (λ i. f b == i) (range_with_len (c + 1) m))) ≡ 0) (sym (ne_eqb (f b) c (λ e. omega arith))) (none_after (c + 1) m (omega arith))

      by : (t : Bool) → (f b == a) ≡ t → length (filter (λ i. f b == i) (range_with_len (a + 1) n)) ≤ 1 → length (cond t (a ∷ filter (λ i. f b == i) (range_with_len (a + 1) n)) (filter (λ i. f b == i) (range_with_len (a + 1) n))) ≤ 1
      by true e h = let same : f b ≡ a = eqb-true (f b) a e in let z = none_after (a + 1) n (omega arith) in omega (arith, z)
      by false e h = h

  -- a list that passes one of two tests is at most as long as those that pass either
  either_test : (p q : ℕ → Bool) (xs : List ℕ) → length (filter (λ i. p i || q i) xs) ≤ length (filter p xs) + length (filter q xs)
  either_test p q [] = omega arith
  either_test p q (x ∷ xs) = by (p x) (q x) (either_test p q xs)
    where
      by : (s t : Bool) → length (filter (λ i. p i || q i) xs) ≤ length (filter p xs) + length (filter q xs)
          → length (cond (s || t) (x ∷ filter (λ i. p i || q i) xs) (filter (λ i. p i || q i) xs)) ≤ length (cond s (x ∷ filter p xs) (filter p xs)) + length (cond t (x ∷ filter q xs) (filter q xs))
      by true true h = omega arith
      by true false h = omega arith
      by false true h = omega arith
      by false false h = h

  no_hit : (a n : ℕ) → length (filter (hit []) (range_with_len a n)) ≡ 0
  no_hit a zero = refl
  no_hit a (suc n) = no_hit (a + 1) n

  pub few_hits : (bytes : List ℕ) (a n : ℕ) → length (filter (hit bytes) (range_with_len a n)) ≤ length bytes
  few_hits [] a n = omega (arith, no_hit a n)
  few_hits (b ∷ bytes) a n = omega (arith, either_test (λ i. f b == i) (hit bytes) (range_with_len a n), lone_hit b a n, few_hits bytes a n)
