-- The map of the puts with one put more.
use Rattle.std.proofs.Common.{◌≡◌, ◌≢◌, ◌⊎◌, ℕ, zero, suc, ◌+◌, ◌<◌, List, [], ◌∷◌, ◌++◌, length, slice_get, Option, Some, None, refl, sym, ap, ap₂, ◌∙◌, inl, inr, ⊎_elim, arith}
use Rattle.std.proofs.lemmas.Bool.{cases_eq}
use Rattle.trie_image.specs.declared.Put.{Put}
use Rattle.trie_image.specs.Puts.{MapsTo}
use Rattle.trie_image.proofs.Grown.{get_either}
use Rattle.trie_image.proofs.Owners.{get_front}

-- two keys are the same or not
pub same_or_not : (k l : List ℕ) → (k ≡ l) ⊎ (k ≡ l → ⊥)
same_or_not [] [] = inl refl
same_or_not [] (x ∷ l) = inr (λ e. cc)
same_or_not (x ∷ k) [] = inr (λ e. cc)
same_or_not (x ∷ k) (y ∷ l) = ⊎_elim (λ (e : x ≡ y). ⊎_elim (λ (s : k ≡ l). inl (ap₂ (λ (z : ℕ) (m : List ℕ). z ∷ m) e s)) (λ (n : k ≡ l → ⊥). inr (λ e. n (cc))) (same_or_not k l)) (λ (ne : x ≢ y). inr (λ e. ne (cc))) (cases_eq x y)

module _ {A : Type 0} where
  pub get_new : (l : List A) (x : A) → slice_get (l ++ x ∷ []) (length l) ≡ Some x
  get_new [] x = refl
  get_new (y ∷ l) x = get_new l x

  -- an element of the longer list is an old one or the new one
  pub old_or_new : (l : List A) (x y : A) (i : ℕ) → slice_get (l ++ x ∷ []) i ≡ Some y → (slice_get l i ≡ Some y) ⊎ ((i ≡ length l) × (y ≡ x))
  old_or_new l x y i e = ⊎_elim (λ t. inl t) (λ (t : (j : ℕ) × (i ≡ length l + j) × (slice_get (x ∷ []) j ≡ Some y)). inr (last t.0 t.1 t.2)) (get_either l (x ∷ []) i y e)
    where
      last : (j : ℕ) → i ≡ length l + j → slice_get (x ∷ []) j ≡ Some y → (i ≡ length l) × (y ≡ x)
      last zero at is = let same : x ≡ y = cc in (omega arith, sym same)
      last (suc j) at is = absurd (cc)

  pub inside_get : (l : List A) (i : ℕ) (y : A) → slice_get l i ≡ Some y → i < length l
  inside_get [] i y e = absurd (cc)
  inside_get (x ∷ l) zero y e = omega arith
  inside_get (x ∷ l) (suc i) y e = let h = inside_get l i y e in omega arith

module _ (puts : List Put) (put : Put) where
  pub maps_new : MapsTo (puts ++ put ∷ []) put.key (Some put.cell)
  maps_new = (
    length puts,
    put,
    record {
      is_there = get_new puts put;
      same_key = refl;
      last = λ m later l e. let o = old_or_new puts put later m e in absurd (⊎_elim (λ (t : slice_get puts m ≡ Some later). let k = inside_get puts m later t in omega arith) (λ (t : (m ≡ length puts) × (later ≡ put)). let z = t.0 in omega arith) o);
    },
    refl,
  )

  pub maps_old : (k : List ℕ) (o : Option ℕ) → (k ≡ put.key → ⊥) → MapsTo puts k o → MapsTo (puts ++ put ∷ []) k o
  maps_old k None ne h = λ m later e same. ⊎_elim (λ (t : slice_get puts m ≡ Some later). h m later t same) (λ (t : (m ≡ length puts) × (later ≡ put)). ne (sym same ∙ ap (λ (x : Put). x.key) t.1)) (old_or_new puts put later m e)
  maps_old k (Some c) ne (n, old, is, cell) = (
    n,
    old,
    record {
      is_there = get_front puts (put ∷ []) n old is.is_there;
      same_key = is.same_key;
      last = λ m later l e same. ⊎_elim (λ (t : slice_get puts m ≡ Some later). let g = is.last m later l t in g same) (λ (t : (m ≡ length puts) × (later ≡ put)). ne (sym same ∙ ap (λ (x : Put). x.key) t.1)) (old_or_new puts put later m e);
    },
    cell,
  )
