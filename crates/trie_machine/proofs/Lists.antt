-- Lists read by `get_elem?` and by `slice_get`.
use Rattle.std.proofs.Common.{◌≡◌, ◌≢◌, ℕ, zero, suc, ◌<◌, ◌≤◌, ◌⊎◌, List, [], ◌∷◌, ◌++◌, length, take, set, slice_get, sym, refl, ap, inl, inr, ⊎_elim, arith, Some}
use mathlib.Core.Option.{some, some-injective, some-ne-none}
use lib.ListN.{get_elem?}

module _ {A : Type 0} where
  -- an element of a list with one set, or with one more
  pub at_set : (l : List A) (i j : ℕ) (a b : A) → get_elem? (set l i a) j ≡ some b → ((j ≡ i) × (a ≡ b)) ⊎ ((j ≢ i) × (get_elem? l j ≡ some b))
  at_set [] i j a b e = absurd (some-ne-none b (sym e))
  at_set (x ∷ xs) zero zero a b e = inl (refl, some-injective a b e)
  at_set (x ∷ xs) zero (suc j) a b e = inr ((λ h. omega arith), e)
  at_set (x ∷ xs) (suc i) zero a b e = inr ((λ h. omega arith), e)
  at_set (x ∷ xs) (suc i) (suc j) a b e = ⊎_elim (λ t. inl (ap suc t.0, t.1)) (λ t. let n = t.0 in inr ((λ h. n (omega arith)), t.1)) (at_set xs i j a b e)

  pub at_more : (l : List A) (a b : A) (j : ℕ) → get_elem? (l ++ a ∷ []) j ≡ some b → (get_elem? l j ≡ some b) ⊎ (a ≡ b)
  at_more [] a b zero e = inr (some-injective a b e)
  at_more [] a b (suc j) e = absurd (some-ne-none b (sym e))
  at_more (x ∷ xs) a b zero e = inl e
  at_more (x ∷ xs) a b (suc j) e = at_more xs a b j e

  pub get_inside : (l : List A) (i : ℕ) (x : A) → slice_get l i ≡ Some x → i < length l
  get_inside [] i x e = absurd (cc)
  get_inside (y ∷ ys) zero x e = omega arith
  get_inside (y ∷ ys) (suc i) x e = let h = get_inside ys i x e in omega arith

  -- the elements of a list are those of a longer one at these places
  pub get_longer : (l more : List A) (i : ℕ) (x : A) → slice_get l i ≡ Some x → slice_get (l ++ more) i ≡ Some x
  get_longer [] more i x e = absurd (cc)
  get_longer (y ∷ ys) more zero x e = e
  get_longer (y ∷ ys) more (suc i) x e = get_longer ys more i x e

  pub get_shorter : (l more : List A) (i : ℕ) (x : A) → i < length l → slice_get (l ++ more) i ≡ Some x → slice_get l i ≡ Some x
  get_shorter [] more i x h e = absurd (omega arith)
  get_shorter (y ∷ ys) more zero x h e = e
  get_shorter (y ∷ ys) more (suc i) x h e = get_shorter ys more i x (omega arith) e

  pub get_last : (l : List A) (x : A) → slice_get (l ++ x ∷ []) (length l) ≡ Some x
  get_last [] x = refl
  get_last (y ∷ ys) x = get_last ys x

  -- the first n elements
  pub get_taken : (n : ℕ) (l : List A) (i : ℕ) (x : A) → slice_get (take n l) i ≡ Some x → (i < n) × (slice_get l i ≡ Some x)
  get_taken zero l i x e = absurd (cc)
  get_taken (suc n) [] i x e = absurd (cc)
  get_taken (suc n) (y ∷ ys) zero x e = (omega arith, e)
  get_taken (suc n) (y ∷ ys) (suc i) x e = let h = get_taken n ys i x e in (omega (arith, h.0), h.1)

  pub taken_has : (n : ℕ) (l : List A) (i : ℕ) (x : A) → i < n → slice_get l i ≡ Some x → slice_get (take n l) i ≡ Some x
  taken_has zero l i x h e = absurd (omega arith)
  taken_has (suc n) [] i x h e = e
  taken_has (suc n) (y ∷ ys) zero x h e = e
  taken_has (suc n) (y ∷ ys) (suc i) x h e = taken_has n ys i x (omega arith) e

  pub take_longer : (n : ℕ) (l more : List A) → n ≤ length l → take n (l ++ more) ≡ take n l
  take_longer zero l more h = refl
  take_longer (suc n) [] more h = absurd (omega arith)
  take_longer (suc n) (y ∷ ys) more h = ap (λ (k : List A). y ∷ k) (take_longer n ys more (omega arith))

  -- the two ways to read an element
  pub there_is : (l : List A) (i : ℕ) (x : A) → slice_get l i ≡ Some x → get_elem? l i ≡ some x
  there_is [] i x e = absurd (cc)
  there_is (y ∷ ys) zero x e = let same : y ≡ x = cc in ap (λ (z : A). some z) same
  there_is (y ∷ ys) (suc i) x e = there_is ys i x e

  pub is_there : (l : List A) (i : ℕ) (x : A) → get_elem? l i ≡ some x → slice_get l i ≡ Some x
  is_there [] i x e = absurd (some-ne-none x (sym e))
  is_there (y ∷ ys) zero x e = ap (λ (z : A). Some z) (some-injective y x e)
  is_there (y ∷ ys) (suc i) x e = is_there ys i x e

  pub set_again : (l : List A) (i : ℕ) (a b : A) → set (set l i a) i b ≡ set l i b
  set_again [] i a b = refl
  set_again (y ∷ ys) zero a b = refl
  set_again (y ∷ ys) (suc i) a b = ap (λ (k : List A). y ∷ k) (set_again ys i a b)
