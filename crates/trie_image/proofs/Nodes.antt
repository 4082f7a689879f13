-- A node in place of a node that differs in one child, or in its record.
use Rattle.std.proofs.Common.{◌≡◌, ◌≢◌, ◌⊎◌, ℕ, List, [], ◌∷◌, Some, refl, sym, ap, ◌∙◌, subst, inl, inr, ⊎_elim}
use Rattle.std.proofs.lemmas.Bool.{cases_eq}
use Rattle.trie_image.specs.Reading.{Reading, sees_from, Better}
use Rattle.trie_image.proofs.Readings.{sees_there}

module _ (r : Reading) where
  -- the answer of Better for one key
  abbrev For : ℕ → ℕ → List ℕ → ℕ → List ℕ → Type 0
  For p p' rest new k = ((k ≡ rest) × (sees_from r p' k ≡ Some new)) ⊎ ((k ≡ rest → ⊥) × (sees_from r p' k ≡ sees_from r p k))

  tail_of : (b : ℕ) (k l : List ℕ) → b ∷ k ≡ b ∷ l → k ≡ l
  tail_of b k l e = cc

  head_of : (a b : ℕ) (k l : List ℕ) → a ∷ k ≡ b ∷ l → a ≡ b
  head_of a b k l e = cc

  pub better_node : (b : ℕ) (rest : List ℕ) (p p' new : ℕ) → p ≢ 0 → p' ≢ 0 → r.record_at p' ≡ r.record_at p → ((a : ℕ) (k : List ℕ) → a ≢ b → sees_from r (r.child p' a) k ≡ sees_from r (r.child p a) k) → Better r (r.child p b) (r.child p' b) rest new → Better r p p' (b ∷ rest) new
  better_node b rest p p' new ne ne' same others better [] = inr ((λ e. cc), sees_there r p' [] ne' ∙ (same ∙ sym (sees_there r p [] ne)))
  better_node b rest p p' new ne ne' same others better (a ∷ k) =
      let on : (x : ℕ) → sees_from r p (x ∷ k) ≡ sees_from r (r.child p x) k = λ x. sees_there r p (x ∷ k) ne in
      let on' : (x : ℕ) → sees_from r p' (x ∷ k) ≡ sees_from r (r.child p' x) k = λ x. sees_there r p' (x ∷ k) ne' in
      ⊎_elim
      (λ (is : a ≡ b). subst (λ (x : ℕ). For p p' (b ∷ rest) new (x ∷ k)) (sym is)
      (⊎_elim (λ (t : (k ≡ rest) × (sees_from r (r.child p' b) k ≡ Some new)). inl (ap (λ (l : List ℕ). b ∷ l) t.0, on' b ∙ t.1))
      (λ (t : (k ≡ rest → ⊥) × (sees_from r (r.child p' b) k ≡ sees_from r (r.child p b) k)). let n = t.0 in inr ((λ e. n (tail_of b k rest e)), on' b ∙ (t.1 ∙ sym (on b)))) (better k)))
      (λ (other : a ≢ b). inr ((λ e. other (head_of a b k rest e)), on' a ∙ (others a k other ∙ sym (on a)))) (cases_eq a b)

  pub better_record : (p p' new : ℕ) → p ≢ 0 → p' ≢ 0 → r.record_at p' ≡ Some new → ((a : ℕ) (k : List ℕ) → sees_from r (r.child p' a) k ≡ sees_from r (r.child p a) k) → Better r p p' [] new
  better_record p p' new ne ne' is same [] = inl (refl, sees_there r p' [] ne' ∙ is)
  better_record p p' new ne ne' is same (a ∷ k) = inr ((λ e. cc), sees_there r p' (a ∷ k) ne' ∙ (same a k ∙ sym (sees_there r p (a ∷ k) ne)))
