-- The stores of the put under way at run time: a list of all of them, and how many are made.
use Rattle.std.proofs.Common.{◌≡◌, ℕ, zero, suc, ◌+◌, List, [], ◌∷◌, ◌++◌, take, drop, slice_get, Option, Some, None, MatchOption, refl, sym, ap, ◌∙◌, arith}
use Rattle.trie_image.specs.declared.WordStore.{WordStore}
use Rattle.trie_machine.specs.declared.Begun.{Begun}
use Rattle.trie_machine.specs.Events.{with_done}
use Rattle.trie_machine.specs.Counted.{HasFirst}

-- the element at a place is the first of those from there on
pub first_there : (xs : List WordStore) (n : ℕ) (o : Option WordStore) → o ≡ slice_get xs n → MatchOption o (drop n xs ≡ []) (λ s. HasFirst (drop n xs) s)
first_there [] zero None e = refl
first_there [] (suc n) None e = refl
first_there [] n (Some s) e = absurd (cc)
first_there (x ∷ xs) zero None e = absurd (cc)
first_there (x ∷ xs) zero (Some s) e = let is : s ≡ x = cc in (xs, ap (λ (y : WordStore). y ∷ xs) (sym is))
first_there (x ∷ xs) (suc n) o e = first_there xs n o e

-- one more
one_more : (xs : List WordStore) (n : ℕ) (s : WordStore) (left : List WordStore) → drop n xs ≡ s ∷ left → (take (suc n) xs ≡ take n xs ++ s ∷ []) × (drop (suc n) xs ≡ left)
one_more [] zero s left e = absurd (cc)
one_more [] (suc n) s left e = absurd (cc)
one_more (x ∷ xs) zero s left e = let is : x ≡ s = cc in let others : xs ≡ left = cc in (ap (λ (y : WordStore). y ∷ []) is, others)
one_more (x ∷ xs) (suc n) s left e = let h = one_more xs n s left e in (ap (λ (l : List WordStore). x ∷ l) h.0, h.1)

-- a put under way after one store more
pub advances : (key value : List ℕ) (stores : List WordStore) (made : ℕ) (b : Begun) → record { key = key; value = value; done = take made stores; left = drop made stores } ≡ b
    → (s : WordStore) (left : List WordStore) → b.left ≡ s ∷ left → record { key = key; value = value; done = take (made + 1) stores; left = drop (made + 1) stores } ≡ with_done b s left
advances key value stores made b is s left e =
    let one : made + 1 ≡ suc made = omega arith in let h = one_more stores made s left (ap (λ (x : Begun). x.left) is ∙ e) in
    ap (λ (n : ℕ). record { key = key; value = value; done = take n stores; left = drop n stores }) one
    ∙ (ap (λ (d : List WordStore). record { key = key; value = value; done = d; left = drop (suc made) stores }) h.0
    ∙ (ap (λ (l : List WordStore). record { key = key; value = value; done = take made stores ++ s ∷ []; left = l }) h.1 ∙ ap (λ (x : Begun). with_done x s left) is))
