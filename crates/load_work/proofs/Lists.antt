-- Lists, filtered and parted.
use Rattle.std.specs.Global.{Vec}
use Rattle.std.proofs.lemmas.Option.{slice_get_within}
use Rattle.std.proofs.lemmas.List.{take_all}
use Rattle.shard_table.specs.Seats.{AreEach}
use Rattle.std.proofs.Common.{◌≡◌, ◌≢◌, ◌⊎◌, set, ℕ, zero, suc, ◌+◌, ◌<◌, Bool, true, false, cond, List, [], ◌∷◌, ◌++◌, length, take, drop, filter, vec_len, slice_get, slice_index_or, Some, inl, inr, refl, ap, ◌∙◌, append-nil, append_assoc, arith}

one_more : (k : ℕ) → k + 1 ≡ suc k
one_more k = omega arith

module _ {X : Type 0} where
  pub filter_more : (t : X → Bool) (xs ys : List X) → filter t (xs ++ ys) ≡ filter t xs ++ filter t ys
  filter_more t [] ys = refl
  filter_more t (x ∷ xs) ys = by (t x) (filter_more t xs ys)
    where
      by : (b : Bool) → filter t (xs ++ ys) ≡ filter t xs ++ filter t ys → cond b (x ∷ filter t (xs ++ ys)) (filter t (xs ++ ys)) ≡ cond b (x ∷ filter t xs) (filter t xs) ++ filter t ys
      by true more = ap (λ (l : List X). x ∷ l) more
      by false more = more

  -- an item of the list is the same whatever stands in for one that isn't there
  pub any_default : (xs : List X) (k : ℕ) (d e : X) → k < length xs → slice_index_or xs k e ≡ slice_index_or xs k d
  any_default [] k d e less = absurd (omega arith)
  any_default (x ∷ xs) zero d e less = refl
  any_default (x ∷ xs) (suc k) d e less = any_default xs k d e (omega arith)

  -- the list is what stands before item k, the item, and what stands behind it
  pub parted : (xs : List X) (k : ℕ) (x : X) → k < length xs → slice_index_or xs k x ≡ x → xs ≡ take k xs ++ x ∷ drop (suc k) xs
  parted [] k x less there = absurd (omega arith)
  parted (y ∷ ys) zero x less there = ap (λ (z : X). z ∷ ys) there
  parted (y ∷ ys) (suc k) x less there = ap (λ (l : List X). y ∷ l) (parted ys k x (omega arith) there)

  pub taken_more : (xs : List X) (k : ℕ) (x : X) → k < length xs → slice_index_or xs k x ≡ x → take (suc k) xs ≡ take k xs ++ x ∷ []
  taken_more [] k x less there = absurd (omega arith)
  taken_more (y ∷ ys) zero x less there = ap (λ (z : X). z ∷ []) there
  taken_more (y ∷ ys) (suc k) x less there = ap (λ (l : List X). y ∷ l) (taken_more ys k x (omega arith) there)

  -- what passes among those before item k and the item
  pub filter_next : (t : X → Bool) (xs : List X) (k : ℕ) (x : X) → k < length xs → slice_index_or xs k x ≡ x → filter t (take (k + 1) xs) ≡ filter t (take k xs) ++ filter t (x ∷ [])
  filter_next t xs k x less there = ap (λ (n : ℕ). filter t (take n xs)) (one_more k) ∙ ap (filter t) (taken_more xs k x less there) ∙ filter_more t (take k xs) (x ∷ [])

  pub filter_parted : (t : X → Bool) (xs : List X) (k : ℕ) (x : X) → k < length xs → slice_index_or xs k x ≡ x → t x ≡ true → filter t xs ≡ filter t (take k xs) ++ x ∷ filter t (drop (suc k) xs)
  filter_parted t xs k x less there passes =
      ap (filter t) (parted xs k x less there) ∙ filter_more t (take k xs) (x ∷ drop (suc k) xs)
      ∙ ap (λ (b : Bool). filter t (take k xs) ++ cond b (x ∷ filter t (drop (suc k) xs)) (filter t (drop (suc k) xs))) passes

  pub filter_taken : (t : X → Bool) (xs : List X) (k : ℕ) (x : X) → k < length xs → slice_index_or xs k x ≡ x → t x ≡ true → filter t (take (k + 1) xs) ≡ filter t (take k xs) ++ x ∷ []
  filter_taken t xs k x less there passes = filter_next t xs k x less there ∙ ap (λ (b : Bool). filter t (take k xs) ++ cond b (x ∷ []) []) passes

  pub item_at : (xs : List X) (k : ℕ) → k < length xs → (x : X) × (slice_get xs k ≡ Some x)
  item_at [] k less = absurd (omega arith)
  item_at (x ∷ xs) zero less = (x, refl)
  item_at (x ∷ xs) (suc k) less = item_at xs k (omega arith)

  -- an item that doesn't pass adds nothing
  pub filter_passed_over : (t : X → Bool) (xs : List X) (k : ℕ) (x : X) → k < length xs → slice_index_or xs k x ≡ x → t x ≡ false → filter t (take (k + 1) xs) ≡ filter t (take k xs)
  filter_passed_over t xs k x less there fails =
      filter_next t xs k x less there ∙ ap (λ (b : Bool). filter t (take k xs) ++ cond b (x ∷ []) []) fails ∙ append-nil (filter t (take k xs))

  pub get_part : (xs ys : List X) (x : X) → slice_get (xs ++ x ∷ ys) (length xs) ≡ Some x
  get_part [] ys x = refl
  get_part (y ∷ xs) ys x = get_part xs ys x

  pub or_part : (xs ys : List X) (x d : X) → slice_index_or (xs ++ x ∷ ys) (length xs) d ≡ x
  or_part [] ys x d = refl
  or_part (y ∷ xs) ys x d = or_part xs ys x d

  -- the last of those before goes over to those behind
  pub one_less : (all before now rest : List X) (x : X) → all ≡ before ++ rest → before ≡ now ++ x ∷ [] → all ≡ now ++ x ∷ rest
  one_less all before now rest x e f = e ∙ ap (λ (l : List X). l ++ rest) f ∙ append_assoc now (x ∷ []) rest

  pub taken : (xs : List X) (k : ℕ) (x : X) → slice_get xs k ≡ Some x → take (suc k) xs ≡ take k xs ++ x ∷ []
  taken [] k x at = absurd (cc)
  taken (y ∷ xs) zero x at = let e : y ≡ x = cc in ap (λ (z : X). z ∷ []) e
  taken (y ∷ xs) (suc k) x at = ap (λ (l : List X). y ∷ l) (taken xs k x at)

  pub dropped : (xs : List X) (k : ℕ) (x : X) → slice_get xs k ≡ Some x → drop k xs ≡ x ∷ drop (suc k) xs
  dropped [] k x at = absurd (cc)
  dropped (y ∷ xs) zero x at = let e : y ≡ x = cc in ap (λ (z : X). z ∷ xs) e
  dropped (y ∷ xs) (suc k) x at = dropped xs k x at

  -- an item of a list with one more is one of the list or the new one
  pub old_or_last : (l : List X) (x y : X) (i : ℕ) → slice_get (l ++ x ∷ []) i ≡ Some y → (slice_get l i ≡ Some y) ⊎ ((i ≡ length l) × (x ≡ y))
  old_or_last [] x y zero at = inr (refl, cc)
  old_or_last [] x y (suc i) at = absurd (cc)
  old_or_last (z ∷ l) x y zero at = inl at
  old_or_last (z ∷ l) x y (suc i) at = by (old_or_last l x y i at)
    where
      by : (slice_get l i ≡ Some y) ⊎ ((i ≡ length l) × (x ≡ y)) → (slice_get (z ∷ l) (suc i) ≡ Some y) ⊎ ((suc i ≡ length (z ∷ l)) × (x ≡ y))
      by (inl there) = inl there
      by (inr (e, same)) = inr (ap suc e, same)

  pub get_before : (xs ys : List X) (n : ℕ) (x : X) → slice_get xs n ≡ Some x → slice_get (xs ++ ys) n ≡ Some x
  get_before [] ys n x at = absurd (cc)
  get_before (y ∷ xs) ys zero x at = at
  get_before (y ∷ xs) ys (suc n) x at = get_before xs ys n x at

-- the same of two lists that are as long
pub pair_old_or_last : {X Y : Type 0} (xs : List X) (ys : List Y) (x x' : X) (y y' : Y) (i : ℕ) → length xs ≡ length ys → slice_get (xs ++ x ∷ []) i ≡ Some x' → slice_get (ys ++ y ∷ []) i ≡ Some y'
    → ((slice_get xs i ≡ Some x') × (slice_get ys i ≡ Some y')) ⊎ ((i ≡ length xs) × (x ≡ x') × (y ≡ y'))
pair_old_or_last {X} {Y} xs ys x x' y y' i same at to = by (old_or_last xs x x' i at) (old_or_last ys y y' i to)
  where
    by : (slice_get xs i ≡ Some x') ⊎ ((i ≡ length xs) × (x ≡ x')) → (slice_get ys i ≡ Some y') ⊎ ((i ≡ length ys) × (y ≡ y')) → ((slice_get xs i ≡ Some x') × (slice_get ys i ≡ Some y')) ⊎ ((i ≡ length xs) × (x ≡ x') × (y ≡ y'))
    by (inl a) (inl b) = inl (a, b)
    by (inl a) (inr (f, q)) = absurd (omega (arith, same, f, slice_get_within xs i x' a))
    by (inr (e, p)) (inl b) = absurd (omega (arith, same, e, slice_get_within ys i y' b))
    by (inr (e, p)) (inr (f, q)) = inr (e, p, q)

pub empty_vec : {X : Type 0} (v : Vec X) → vec_len v ≡ 0 → v.items ≡ []
empty_vec v e = empty v.items (omega (arith, v.ok.0, e))
  where
    empty : {X : Type 0} (xs : List X) → length xs ≡ 0 → xs ≡ []
    empty [] f = refl
    empty (x ∷ xs) f = absurd (omega arith)

-- an item of a list in which one is set is this one, or one of the list
pub set_cases : {X : Type 0} (xs : List X) (i j : ℕ) (x y : X) → slice_get (set xs i x) j ≡ Some y → ((j ≡ i) × (x ≡ y)) ⊎ ((j ≢ i) × (slice_get xs j ≡ Some y))
set_cases [] i j x y at = absurd (cc)
set_cases (z ∷ xs) zero zero x y at = inl (refl, cc)
set_cases (z ∷ xs) zero (suc j) x y at = inr (omega arith, at)
set_cases (z ∷ xs) (suc i) zero x y at = inr (omega arith, at)
set_cases (z ∷ xs) (suc i) (suc j) x y at = by (set_cases xs i j x y at)
  where
    by : ((j ≡ i) × (x ≡ y)) ⊎ ((j ≢ i) × (slice_get xs j ≡ Some y)) → ((suc j ≡ suc i) × (x ≡ y)) ⊎ ((suc j ≢ suc i) × (slice_get (z ∷ xs) (suc j) ≡ Some y))
    by (inl h) = inl (ap suc h.0, h.1)
    by (inr h) = inr (omega (arith, h.0), h.1)

pub set_beside : {X : Type 0} (xs : List X) (i j : ℕ) (x : X) → i < j → slice_get (set xs i x) j ≡ slice_get xs j
set_beside [] i j x less = refl
set_beside (z ∷ xs) i zero x less = absurd (omega arith)
set_beside (z ∷ xs) zero (suc j) x less = refl
set_beside (z ∷ xs) (suc i) (suc j) x less = set_beside xs i j x (omega arith)

-- a slice written back over the whole of a list
pub whole_again : {X : Type 0} (r xs : List X) (n : ℕ) → n ≡ length xs → length r ≡ length xs → take n (r ++ drop (length r) xs) ≡ r
whole_again r xs n e f = rest_none xs r n e f
  where
    none_left : {X : Type 0} (xs : List X) (n : ℕ) → n ≡ length xs → drop n xs ≡ []
    none_left [] zero e = refl
    none_left [] (suc n) e = refl
    none_left (x ∷ xs) zero e = absurd (omega arith)
    none_left (x ∷ xs) (suc n) e = none_left xs n (omega arith)

    rest_none : {X : Type 0} (xs r : List X) (n : ℕ) → n ≡ length xs → length r ≡ length xs → take n (r ++ drop (length r) xs) ≡ r
    rest_none xs r n e f = ap (λ (l : List _). take n (r ++ l)) (none_left xs (length r) f) ∙ ap (take n) (append-nil r) ∙ take_all n r (omega (arith, e, f))

-- items that belong together by their places
pub each_by_place : {X Y : Type 0} (P : X → Y → Type 0) (xs : List X) (ys : List Y) → length xs ≡ length ys → ((i : ℕ) (x : X) (y : Y) → slice_get xs i ≡ Some x → slice_get ys i ≡ Some y → P x y) → AreEach P xs ys
each_by_place P [] [] e h = tt
each_by_place P [] (y ∷ ys) e h = absurd (omega arith)
each_by_place P (x ∷ xs) [] e h = absurd (omega arith)
each_by_place P (x ∷ xs) (y ∷ ys) e h = (h 0 x y refl refl, each_by_place P xs ys (omega arith) (λ i a b. h (suc i) a b))
