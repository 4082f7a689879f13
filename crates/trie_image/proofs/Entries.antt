-- One entry that leads to a better pointer: the law of Publish, for every kind of entry.
use Rattle.std.proofs.Common.{◌≡◌, ◌≢◌, ◌⊎◌, ℕ, List, [], ◌∷◌, ◌++◌, Some, sym, ap, ◌∙◌, subst, inl, inr, ⊎_elim, append_assoc}
use Rattle.trie_image.specs.Reading.{Reading, sees, sees_from, Closed, Better, Changes}
use Rattle.trie_image.proofs.Readings.{sees_there, publish}
use Rattle.trie_image.proofs.Betters.{edge}

module _ (r r' : Reading) (path : ℕ → List ℕ → Type 0) (closed : Closed r path) (key : List ℕ) (new p p' : ℕ) (h rest : List ℕ) (is_key : h ++ rest ≡ key) (better : Better r' p p' rest new) where
  abbrev Law : ℕ → ℕ → List ℕ → List ℕ → Type 0
  Law a b q k = (sees r' a (b ∷ k) ≡ sees_from r' (r.child a b) k) ⊎ ((q ++ b ∷ k ≡ key) × (sees r' a (b ∷ k) ≡ Some new))

  by_edge : (a b : ℕ) (q k : List ℕ) → (q ++ b ∷ [] ≡ h) × (r.child a b ≡ p) × (r'.child a b ≡ p') → Law a b q k
  by_edge a b q k (whole, was, is) = edge r r' key new a b q k (inr (rest, sym (append_assoc q (b ∷ []) rest) ∙ (ap (λ (x : List ℕ). x ++ rest) whole ∙ is_key), subst (λ (x : ℕ). Better r' x (r'.child a b) rest new) (sym was) (subst (λ (x : ℕ). Better r' p x rest new) (sym is) better)))

  by_child : (a b : ℕ) (q k : List ℕ) → (q ≡ h) × (p ≢ 0) × (p' ≢ 0) × (r.child a b ≡ r'.child p b) × (r'.child a b ≡ r'.child p' b) → Law a b q k
  by_child a b q k (same, ne, ne', was, is) =
      let after : sees r' a (b ∷ k) ≡ sees_from r' p' (b ∷ k) = ap (λ (c : ℕ). sees_from r' c k) is ∙ sym (sees_there r' p' (b ∷ k) ne') in
      ⊎_elim (λ (t : (b ∷ k ≡ rest) × (sees_from r' p' (b ∷ k) ≡ Some new)). inr (ap (λ (x : List ℕ). x ++ b ∷ k) same ∙ (ap (λ (x : List ℕ). h ++ x) t.0 ∙ is_key), after ∙ t.1))
      (λ (t : (b ∷ k ≡ rest → ⊥) × (sees_from r' p' (b ∷ k) ≡ sees_from r' p (b ∷ k))). inl (after ∙ (t.1 ∙ (sees_there r' p (b ∷ k) ne ∙ ap (λ (c : ℕ). sees_from r' c k) (sym was))))) (better (b ∷ k))

  pub one_entry : ((a : ℕ) (q : List ℕ) → path a q → (r'.record_at a ≡ r.record_at a) ⊎ ((q ≡ key) × (r'.record_at a ≡ Some new))) → ((a b : ℕ) (q : List ℕ) → path a q → Changes r r' p p' h a q b)
      → (k : List ℕ) (a : ℕ) (q : List ℕ) → path a q → (sees r' a k ≡ sees r a k) ⊎ ((q ++ k ≡ key) × (sees r' a k ≡ Some new))
  one_entry records changes k a q at = publish r r' path closed key new records (λ a b q k at. ⊎_elim (λ (e : r'.child a b ≡ r.child a b). inl (ap (λ (c : ℕ). sees_from r' c k) e)) (λ t. ⊎_elim (by_edge a b q k) (by_child a b q k) t) (changes a b q at)) k a q at
