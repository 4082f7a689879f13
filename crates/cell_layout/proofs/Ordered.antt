-- A sparse node's children by their places in the order of their bytes.
use Rattle.std.proofs.Common.{◌≡◌, ◌↔◌, ℕ, zero, suc, ◌+◌, ◌<◌, List, [], ◌∷◌, length, map, get_or, slice_get, Option, Some, None, refl, sym, ap, ◌∙◌, subst, arith, ⊎_elim, ◌⊎◌, inl, inr}
use Rattle.std.proofs.lemmas.Option.{get_or_from_slice_get, slice_get-get_or}
use Rattle.std.proofs.lemmas.List.FromFn.{length-range_with_len, get_or-range_with_len}
use Rattle.std.specs.List.{range_with_len, All}
use Rattle.std.proofs.lemmas.List.Sorted.{IsPermutation-sym, All-permutation}
use Rattle.cell_layout.specs.Words.{byte_of}
use Rattle.cell_layout.specs.Slots.{slots_of, slot_at, child_count, Ascends, IsSparse}
use Rattle.cell_layout.specs.Laws.{LawOrdered}
use Rattle.cell_layout.proofs.Added.{slot_is, absent, in_range}

get_inside : (xs : List ℕ) (i x : ℕ) → slice_get xs i ≡ Some x → i < length xs
get_inside [] i x e = absurd (cc)
get_inside (y ∷ ys) zero x e = omega arith
get_inside (y ∷ ys) (suc i) x e = let l = get_inside ys i x e in omega arith

-- a later element of an ascending list is greater
ascends_later : (f : ℕ → ℕ) (ds : List ℕ) (i j x y : ℕ) → Ascends (map f ds) → slice_get ds i ≡ Some x → slice_get ds j ≡ Some y → i < j → f x < f y
ascends_later f [] i j x y h a b l = absurd (cc)
ascends_later f (d ∷ []) i zero x y h a b l = absurd (omega arith)
ascends_later f (d ∷ []) i (suc j) x y h a b l = absurd (cc)
ascends_later f (d ∷ e ∷ ds) i zero x y h a b l = absurd (omega arith)
ascends_later f (d ∷ e ∷ ds) zero (suc zero) x y h a b l = let p : d ≡ x = cc in let q : e ≡ y = cc in subst (λ (z : ℕ). f z < f y) p (subst (λ (z : ℕ). f d < f z) q h.0)
ascends_later f (d ∷ e ∷ ds) zero (suc (suc j)) x y h a b l = let p : d ≡ x = cc in let first : f d < f e = h.0 in let more = ascends_later f (e ∷ ds) 0 (suc j) e y h.1 refl b (omega arith) in subst (λ (z : ℕ). f z < f y) p (omega arith)
ascends_later f (d ∷ e ∷ ds) (suc i) (suc j) x y h a b l = ascends_later f (e ∷ ds) i j x y h.1 a b (omega arith)

module _ (w : ℕ) (h : IsSparse w) where
  has_place : ℕ → Type 0
  has_place s = (place : ℕ) × (slice_get (slots_of w) place ≡ Some s)

  are_placed : All (λ s. (place : ℕ) × (slice_get (slots_of w) place ≡ Some s)) (slots_of w)
  are_placed k d l = (k, slice_get-get_or (slots_of w) k d l)

  -- each taken slot has a place in the order
  placed : (s : ℕ) → s < child_count w → (place : ℕ) × (slice_get (slots_of w) place ≡ Some s)
  placed s l = let all = All-permutation (λ s. (place : ℕ) × (slice_get (slots_of w) place ≡ Some s)) (slots_of w) (range_with_len 0 (child_count w)) (IsPermutation-sym (range_with_len 0 (child_count w)) (slots_of w) h.slots) are_placed in
      let is : get_or (range_with_len 0 (child_count w)) s 0 ≡ 0 + s = get_or-range_with_len 0 (child_count w) s 0 l in let same : 0 + s ≡ s = omega arith in
      subst (λ (x : ℕ). (place : ℕ) × (slice_get (slots_of w) place ≡ Some x)) (is ∙ same) (all s 0 (omega (arith, length-range_with_len 0 (child_count w))))

  -- and each place has a taken slot
  taken : (place s : ℕ) → slice_get (slots_of w) place ≡ Some s → s < child_count w
  taken place s e = let all = All-permutation (λ s. s < child_count w) (range_with_len 0 (child_count w)) (slots_of w) h.slots (in_range (child_count w)) in
      subst (λ (x : ℕ). x < child_count w) (get_or_from_slice_get (slots_of w) place s 0 e) (all place 0 (get_inside (slots_of w) place s e))

  -- two places with one byte are one
  once : (i j s t : ℕ) → slice_get (slots_of w) i ≡ Some s → slice_get (slots_of w) j ≡ Some t → byte_of w s ≡ byte_of w t → s ≡ t
  once i j s t a b same = ⊎_elim (λ (l : i < j). let z = ascends_later (byte_of w) (slots_of w) i j s t h.ascends a b l in absurd (omega arith))
      (λ (r : (i ≡ j) ⊎ (j < i)). ⊎_elim (λ (e : i ≡ j). let both : Some s ≡ Some t = sym a ∙ (ap (λ (k : ℕ). slice_get (slots_of w) k) e ∙ b) in cc)
      (λ (l : j < i). let z = ascends_later (byte_of w) (slots_of w) j i t s h.ascends b a l in absurd (omega arith)) r) (order i j)
    where
      order : (i j : ℕ) → (i < j) ⊎ ((i ≡ j) ⊎ (j < i))
      order zero zero = inr (inl refl)
      order zero (suc j) = inl (omega arith)
      order (suc i) zero = inr (inr (omega arith))
      order (suc i) (suc j) = ⊎_elim (λ (l : i < j). inl (omega arith)) (λ (r : (i ≡ j) ⊎ (j < i)). inr (⊎_elim (λ (e : i ≡ j). inl (ap (λ (n : ℕ). suc n) e)) (λ (l : j < i). inr (omega arith)) r)) (order i j)

  find_it : (b s place : ℕ) → slice_get (slots_of w) place ≡ Some s → byte_of w s ≡ b → (o : Option ℕ) → slot_at w b ≡ o → slot_at w b ≡ Some s
  find_it b s place e is None none_ = absurd (absent w b h.most none_ s (taken place s e) is)
  find_it b s place e is (Some t) found = let at = slot_is w b t found in let q = placed t at.1 in
      found ∙ ap (λ (x : ℕ). Some x) (once q.0 place t s q.1 e (at.2 ∙ sym is))

pub ordered : LawOrdered
ordered w b s h = ((λ e. let at = slot_is w b s e in let q = placed w h s at.1 in (q.0, q.1, at.2)), (λ t. find_it w h b s t.0 t.1 t.2 (slot_at w b) refl))
