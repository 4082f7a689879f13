-- Items that belong together in two lists.
use Rattle.std.proofs.Common.{◌≡◌, ◌≢◌, inl, inr, slice_index_or, length-append, ℕ, zero, suc, ◌<◌, List, [], ◌∷◌, ◌++◌, length, slice_get, Some, refl, sym, ap, ◌∙◌, subst, arith}
use Rattle.std.specs.Prelude.{◌⊎◌}
use Rattle.std.proofs.lemmas.Bool.{cases_eq}
use Rattle.std.specs.List.{All}
use Rattle.shard_table.specs.Seats.{AreEach}

module _ {X Y : Type 0} (P : X → Y → Type 0) where
  pub each_length : (xs : List X) (ys : List Y) → AreEach P xs ys → length xs ≡ length ys
  each_length [] [] h = refl
  each_length [] (y ∷ ys) h = absurd h
  each_length (x ∷ xs) [] h = absurd h
  each_length (x ∷ xs) (y ∷ ys) (h, hs) = omega (arith, each_length xs ys hs)

  pub each_at : (xs : List X) (ys : List Y) (i : ℕ) (x : X) (y : Y) → AreEach P xs ys → slice_get xs i ≡ Some x → slice_get ys i ≡ Some y → P x y
  each_at [] ys i x y h a b = absurd (cc)
  each_at (x' ∷ xs) [] i x y h a b = absurd h
  each_at (x' ∷ xs) (y' ∷ ys) zero x y (h, hs) a b = let p : x' ≡ x = cc in let q : y' ≡ y = cc in subst (λ (z : X). P z y) p (subst (λ (z : Y). P x' z) q h)
  each_at (x' ∷ xs) (y' ∷ ys) (suc i) x y (h, hs) a b = each_at xs ys i x y hs a b

  pub each_more : (xs : List X) (ys : List Y) (x : X) (y : Y) → AreEach P xs ys → P x y → AreEach P (xs ++ x ∷ []) (ys ++ y ∷ [])
  each_more [] [] x y h new = (new, tt)
  each_more [] (y' ∷ ys) x y h new = absurd h
  each_more (x' ∷ xs) [] x y h new = absurd h
  each_more (x' ∷ xs) (y' ∷ ys) x y (h, hs) new = (h, each_more xs ys x y hs new)

  pub each_index : (xs : List X) (ys : List Y) (i : ℕ) (d : X) (e : Y) → AreEach P xs ys → i < length xs → P (slice_index_or xs i d) (slice_index_or ys i e)
  each_index [] ys i d e h l = absurd (omega arith)
  each_index (x ∷ xs) [] i d e h l = absurd h
  each_index (x ∷ xs) (y ∷ ys) zero d e (h, hs) l = h
  each_index (x ∷ xs) (y ∷ ys) (suc i) d e (h, hs) l = each_index xs ys i d e hs (omega arith)

  pub each_equal : (xs xs' : List X) (ys ys' : List Y) → xs' ≡ xs → ys' ≡ ys → AreEach P xs ys → AreEach P xs' ys'
  each_equal xs xs' ys ys' p q h = subst (λ (l : List X). AreEach P l ys') (sym p) (subst (λ (l : List Y). AreEach P xs l) (sym q) h)

  -- what the last items of both are
  pub each_last : (xs : List X) (ys : List Y) (x : X) (y : Y) → AreEach P (xs ++ x ∷ []) (ys ++ y ∷ []) → AreEach P xs ys × P x y
  each_last [] [] x y (h, hs) = (tt, h)
  each_last [] (y' ∷ []) x y (h, hs) = absurd hs
  each_last [] (y' ∷ z ∷ ys) x y (h, hs) = absurd hs
  each_last (x' ∷ []) [] x y (h, hs) = absurd hs
  each_last (x' ∷ z ∷ xs) [] x y (h, hs) = absurd hs
  each_last (x' ∷ xs) (y' ∷ ys) x y (h, hs) = let i = each_last xs ys x y hs in ((h, i.0), i.1)

at_last : {X : Type 0} (ys : List X) (x d : X) → slice_index_or (ys ++ x ∷ []) (length ys) d ≡ x
at_last [] x d = refl
at_last (y ∷ ys) x d = at_last ys x d

before_last : {X : Type 0} (ys : List X) (x d : X) (i : ℕ) → i < length ys → slice_index_or (ys ++ x ∷ []) i d ≡ slice_index_or ys i d
before_last [] x d i l = absurd (omega arith)
before_last (y ∷ ys) x d zero l = refl
before_last (y ∷ ys) x d (suc i) l = before_last ys x d i (omega arith)

-- one item more of which the same holds
pub all_more : {X : Type 0} (P : X → Type 0) (xs : List X) (x : X) → All P xs → P x → All P (xs ++ x ∷ [])
all_more P xs x all new k d less = by (cases_eq k (length xs))
  where
    by : (k ≡ length xs) ⊎ (k ≢ length xs) → P (slice_index_or (xs ++ x ∷ []) k d)
    by (inl e) = subst P (sym (ap (λ (i : ℕ). slice_index_or (xs ++ x ∷ []) i d) e ∙ at_last xs x d)) new
    by (inr ne) = subst P (sym (before_last xs x d k (omega (arith, ne, less, length-append xs (x ∷ []))))) (all k d (omega (arith, ne, less, length-append xs (x ∷ []))))
