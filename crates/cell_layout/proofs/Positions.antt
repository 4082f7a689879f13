-- The first place of a list at which a test passes, where the list is cut or longer by one.
use Rattle.std.proofs.Common.{◌≡◌, ℕ, zero, suc, ◌+◌, ◌<◌, ◌≤◌, Bool, true, false, cond, List, [], ◌∷◌, ◌++◌, length, take, get_or, Option, Some, None, refl, ap, ◌∙◌, arith}
use Rattle.std.specs.List.{position_from}

module _ (p : ℕ → Bool) where
  least_if : (b : Bool) (i s : ℕ) (o : Option ℕ) → (o ≡ Some s → i + 1 ≤ s) → cond b (Some i) o ≡ Some s → i ≤ s
  least_if true i s o f e = let same : i ≡ s = cc in omega arith
  least_if false i s o f e = let h = f e in omega arith

  pub from_least : (i : ℕ) (xs : List ℕ) (s : ℕ) → position_from p i xs ≡ Some s → i ≤ s
  from_least i [] s e = absurd (cc)
  from_least i (x ∷ xs) s e = least_if (p x) i s (position_from p (i + 1) xs) (from_least (i + 1) xs s) e

  cut_if : (b : Bool) (i s : ℕ) (o c : Option ℕ) → (o ≡ Some s → c ≡ Some s) → cond b (Some i) o ≡ Some s → cond b (Some i) c ≡ Some s
  cut_if true i s o c f e = e
  cut_if false i s o c f e = f e

  -- a place below the cut is found in what is left
  pub from_taken : (i n : ℕ) (xs : List ℕ) (s : ℕ) → position_from p i xs ≡ Some s → s < i + n → position_from p i (take n xs) ≡ Some s
  from_taken i zero xs s e l = let low = from_least i xs s e in absurd (omega arith)
  from_taken i (suc n) [] s e l = e
  from_taken i (suc n) (x ∷ xs) s e l = cut_if (p x) i s (position_from p (i + 1) xs) (position_from p (i + 1) (take n xs)) (λ h. from_taken (i + 1) n xs s h (omega arith)) e

  past_if : (b : Bool) (i n s : ℕ) (o c : Option ℕ) → i + suc n ≤ s → (o ≡ Some s → c ≡ None) → cond b (Some i) o ≡ Some s → cond b (Some i) c ≡ None
  past_if true i n s o c l f e = let same : i ≡ s = cc in absurd (omega arith)
  past_if false i n s o c l f e = f e

  -- where the first place is past the cut, nothing is found
  pub from_past : (i n : ℕ) (xs : List ℕ) (s : ℕ) → position_from p i xs ≡ Some s → i + n ≤ s → position_from p i (take n xs) ≡ None
  from_past i zero xs s e l = refl
  from_past i (suc n) [] s e l = refl
  from_past i (suc n) (x ∷ xs) s e l = past_if (p x) i n s (position_from p (i + 1) xs) (position_from p (i + 1) (take n xs)) l (λ h. from_past (i + 1) n xs s h (omega arith)) e

  none_if : (b : Bool) (i : ℕ) (o c : Option ℕ) → (o ≡ None → c ≡ None) → cond b (Some i) o ≡ None → cond b (Some i) c ≡ None
  none_if true i o c f e = absurd (cc)
  none_if false i o c f e = f e

  pub from_none : (i n : ℕ) (xs : List ℕ) → position_from p i xs ≡ None → position_from p i (take n xs) ≡ None
  from_none i zero xs e = refl
  from_none i (suc n) [] e = refl
  from_none i (suc n) (x ∷ xs) e = none_if (p x) i (position_from p (i + 1) xs) (position_from p (i + 1) (take n xs)) (from_none (i + 1) n xs) e

  -- what a place that is found is
  pub record IsFound (i : ℕ) (xs : List ℕ) (s : ℕ) : Type 0 where
    pub at : ℕ
    pub is : s ≡ i + at
    pub inside : at < length xs
    pub passes : p (get_or xs at 0) ≡ true
    pub first : (t : ℕ) → t < at → p (get_or xs t 0) ≡ false

  earlier : (x : ℕ) (xs : List ℕ) (k : ℕ) → p x ≡ false → ((t : ℕ) → t < k → p (get_or xs t 0) ≡ false) → (t : ℕ) → t < suc k → p (get_or (x ∷ xs) t 0) ≡ false
  earlier x xs k e f zero l = e
  earlier x xs k e f (suc t) l = f t (omega arith)

  found_if : (b : Bool) (i x : ℕ) (xs : List ℕ) (s : ℕ) → p x ≡ b → (position_from p (i + 1) xs ≡ Some s → IsFound (i + 1) xs s) → cond b (Some i) (position_from p (i + 1) xs) ≡ Some s → IsFound i (x ∷ xs) s
  found_if true i x xs s t f e = let same : i ≡ s = cc in record { at = 0; is = omega arith; inside = omega arith; passes = t; first = λ k l. absurd (omega arith) }
  found_if false i x xs s t f e = let h = f e in record { at = suc h.at; is = omega (arith, h.is); inside = omega (arith, h.inside); passes = h.passes; first = earlier x xs h.at t h.first }

  pub found : (i : ℕ) (xs : List ℕ) (s : ℕ) → position_from p i xs ≡ Some s → IsFound i xs s
  found i [] s e = absurd (cc)
  found i (x ∷ xs) s e = found_if (p x) i x xs s refl (found (i + 1) xs s) e

  miss_if : (b : Bool) (i : ℕ) (o : Option ℕ) → cond b (Some i) o ≡ None → (b ≡ false) × (o ≡ None)
  miss_if true i o e = absurd (cc)
  miss_if false i o e = (refl, e)

  -- where nothing is found, no element passes
  pub missed : (i : ℕ) (xs : List ℕ) (k : ℕ) → position_from p i xs ≡ None → k < length xs → p (get_or xs k 0) ≡ false
  missed i [] k e l = absurd (omega arith)
  missed i (x ∷ xs) zero e l = (miss_if (p x) i (position_from p (i + 1) xs) e).0
  missed i (x ∷ xs) (suc k) e l = missed (i + 1) xs k ((miss_if (p x) i (position_from p (i + 1) xs) e).1) (omega arith)

  -- a list with one more element at its end, which passes or doesn't
  pub pushed_other : (i : ℕ) (xs : List ℕ) (y : ℕ) → p y ≡ false → position_from p i (xs ++ y ∷ []) ≡ position_from p i xs
  pushed_other i [] y e = ap (λ (b : Bool). cond b (Some i) None) e
  pushed_other i (x ∷ xs) y e = ap (λ (o : Option ℕ). cond (p x) (Some i) o) (pushed_other (i + 1) xs y e)

  push_if : (b : Bool) (i : ℕ) (o c : Option ℕ) (s : ℕ) → (o ≡ None → c ≡ Some s) → cond b (Some i) o ≡ None → cond b (Some i) c ≡ Some s
  push_if true i o c s f e = absurd (cc)
  push_if false i o c s f e = f e

  pub pushed_new : (i : ℕ) (xs : List ℕ) (y s : ℕ) → p y ≡ true → position_from p i xs ≡ None → s ≡ i + length xs → position_from p i (xs ++ y ∷ []) ≡ Some s
  pushed_new i [] y s e n l = let z : i ≡ s = omega arith in ap (λ (b : Bool). cond b (Some i) None) e ∙ ap (λ (x : ℕ). Some x) z
  pushed_new i (x ∷ xs) y s e n l = push_if (p x) i (position_from p (i + 1) xs) (position_from p (i + 1) (xs ++ y ∷ [])) s (λ h. pushed_new (i + 1) xs y s e h (omega arith)) n
