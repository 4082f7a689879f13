-- The root sees the new record: the walk to the changed entry is as before, and from there the new record is seen.
use Rattle.std.proofs.Common.{◌≡◌, ◌≢◌, ℕ, List, [], ◌∷◌, ◌++◌, Some, sym, ap, ◌∙◌, subst, ⊎_elim, append_assoc}
use Rattle.trie_image.specs.Reading.{Reading, sees, sees_from, Closed, Better, Changes}
use Rattle.trie_image.proofs.Readings.{sees_there}

-- from a pointer the bytes lead to x, over pointers that are not 0
abbrev pub Walks : Reading → ℕ → List ℕ → ℕ → Type 0
Walks r a [] x = a ≡ x
Walks r a (b ∷ bs) x = (r.child a b ≢ 0) × Walks r (r.child a b) bs x

tail_same : (b : ℕ) (k l : List ℕ) → b ∷ k ≡ b ∷ l → k ≡ l
tail_same b k l e = cc

-- the same front cut off
pub cut : (h k l : List ℕ) → h ++ k ≡ h ++ l → k ≡ l
cut [] k l e = e
cut (b ∷ h) k l e = cut h k l (tail_same b (h ++ k) (h ++ l) e)

module _ (r r' : Reading) (path : ℕ → List ℕ → Type 0) (closed : Closed r path) (key : List ℕ) (new p p' : ℕ) (h rest : List ℕ) (is_key : h ++ rest ≡ key) (better : Better r' p p' rest new) (changes : (a b : ℕ) (q : List ℕ) → path a q → Changes r r' p p' h a q b) where
  pub sees_new : (k : List ℕ) → h ++ k ≡ key → sees_from r' p' k ≡ Some new
  sees_new k e = ⊎_elim (λ (t : (k ≡ rest) × (sees_from r' p' k ≡ Some new)). t.1) (λ (t : (k ≡ rest → ⊥) × (sees_from r' p' k ≡ sees_from r' p k)). let n = t.0 in absurd (n (cut h k rest (e ∙ sym is_key)))) (better k)

  -- from a to the last pointer x on the walk, which sees the new record
  pub lives : (bs k : List ℕ) (a x : ℕ) (q : List ℕ) → path a q → Walks r a bs x → q ++ (bs ++ k) ≡ key → sees r' x k ≡ Some new → sees r' a (bs ++ k) ≡ Some new
  lives [] k a x q at e whole is = subst (λ (z : ℕ). sees r' z k ≡ Some new) (sym e) is
  lives (d ∷ bs) k a x q at (n, walk) whole is =
      let longer : (q ++ d ∷ []) ++ (bs ++ k) ≡ key = append_assoc q (d ∷ []) (bs ++ k) ∙ whole in
      let next : sees r' (r.child a d) (bs ++ k) ≡ Some new = lives bs k (r.child a d) x (q ++ d ∷ []) (closed a q d at n) walk longer is in
      ⊎_elim (λ (e : r'.child a d ≡ r.child a d). ap (λ (c : ℕ). sees_from r' c (bs ++ k)) e ∙ (sees_there r' (r.child a d) (bs ++ k) n ∙ next)) (λ t. ⊎_elim
      (λ (t : (q ++ d ∷ [] ≡ h) × (r.child a d ≡ p) × (r'.child a d ≡ p')). ap (λ (c : ℕ). sees_from r' c (bs ++ k)) t.2 ∙ sees_new (bs ++ k) (ap (λ (l : List ℕ). l ++ (bs ++ k)) (sym t.0) ∙ longer))
      (λ (t : (q ≡ h) × (p ≢ 0) × (p' ≢ 0) × (r.child a d ≡ r'.child p d) × (r'.child a d ≡ r'.child p' d)). ap (λ (c : ℕ). sees_from r' c (bs ++ k)) t.4 ∙ (sym (sees_there r' p' (d ∷ (bs ++ k)) t.2) ∙ sees_new (d ∷ (bs ++ k)) (ap (λ (l : List ℕ). l ++ d ∷ (bs ++ k)) (sym t.0) ∙ whole))) t) (changes a d q at)
