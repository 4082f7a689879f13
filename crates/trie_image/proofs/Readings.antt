-- What follows for keys from what holds of records and children, whatever the representation.
use Rattle.std.proofs.Common.{◌≡◌, ◌≢◌, ◌⊎◌, ℕ, List, [], ◌∷◌, ◌++◌, Some, None, refl, sym, ap, ◌∙◌, inl, inr, ⊎_elim, append_assoc, append-nil, eq-eqb, ne_eqb}
use Rattle.std.proofs.lemmas.Bool.{cases_eq}
use Rattle.trie_image.specs.Reading.{Reading, sees, sees_from, Closed}

pub sees_none : (r : Reading) (p : ℕ) (k : List ℕ) → p ≡ 0 → sees_from r p k ≡ None
sees_none r p k e = rw (eq-eqb p 0 e) refl

pub sees_there : (r : Reading) (p : ℕ) (k : List ℕ) → p ≢ 0 → sees_from r p k ≡ sees r p k
sees_there r p k ne = rw (ne_eqb p 0 ne) refl

-- a byte further
pub sees_child : (r : Reading) (p b : ℕ) (k : List ℕ) → sees r p (b ∷ k) ≡ sees_from r (r.child p b) k
sees_child r p b k = refl

module _ (r r' : Reading) (path : ℕ → List ℕ → Type 0) (closed : Closed r path) where
  -- where no record and no child of a pointer with a path changes, no such pointer sees another thing
  pub frame : ((p : ℕ) (q : List ℕ) → path p q → r'.record_at p ≡ r.record_at p) → ((p : ℕ) (q : List ℕ) (b : ℕ) → path p q → r'.child p b ≡ r.child p b) → (k : List ℕ) (p : ℕ) (q : List ℕ) → path p q → sees r' p k ≡ sees r p k
  frame records children [] p q at = records p q at
  frame records children (b ∷ k) p q at =
      ap (λ (c : ℕ). sees_from r' c k) (children p q b at)
      ∙ ⊎_elim (λ (e : r.child p b ≡ 0). sees_none r' (r.child p b) k e ∙ sym (sees_none r (r.child p b) k e)) (λ (ne : r.child p b ≢ 0). sees_there r' (r.child p b) k ne ∙ (frame records children k (r.child p b) (q ++ b ∷ []) (closed p q b at ne) ∙ sym (sees_there r (r.child p b) k ne))) (cases_eq (r.child p b) 0)

  module _ (key : List ℕ) (new : ℕ) where
    abbrev pub StaysOrNew : ℕ → List ℕ → List ℕ → Type 0
    StaysOrNew p q k = (sees r' p k ≡ sees r p k) ⊎ ((q ++ k ≡ key) × (sees r' p k ≡ Some new))

    further : (p b : ℕ) (q k : List ℕ) → sees r' p (b ∷ k) ≡ sees_from r' (r.child p b) k → r.child p b ≢ 0 → StaysOrNew (r.child p b) (q ++ b ∷ []) k → StaysOrNew p q (b ∷ k)
    further p b q k e ne stays = ⊎_elim (λ (t : sees r' (r.child p b) k ≡ sees r (r.child p b) k). inl (e ∙ (sees_there r' (r.child p b) k ne ∙ (t ∙ sym (sees_there r (r.child p b) k ne)))))
        (λ (t : ((q ++ b ∷ []) ++ k ≡ key) × (sees r' (r.child p b) k ≡ Some new)). inr (sym (append_assoc q (b ∷ []) k) ∙ t.0, e ∙ (sees_there r' (r.child p b) k ne ∙ t.1))) stays

    -- the law of Publish: each pointer sees what it saw, or its path and the rest are the put's key and it sees the new record
    pub publish : ((p : ℕ) (q : List ℕ) → path p q → (r'.record_at p ≡ r.record_at p) ⊎ ((q ≡ key) × (r'.record_at p ≡ Some new)))
        → ((p b : ℕ) (q k : List ℕ) → path p q → (sees r' p (b ∷ k) ≡ sees_from r' (r.child p b) k) ⊎ ((q ++ b ∷ k ≡ key) × (sees r' p (b ∷ k) ≡ Some new)))
        → (k : List ℕ) (p : ℕ) (q : List ℕ) → path p q → StaysOrNew p q k
    publish records edges [] p q at = ⊎_elim (λ t. inl t) (λ (t : (q ≡ key) × (r'.record_at p ≡ Some new)). inr (append-nil q ∙ t.0, t.1)) (records p q at)
    publish records edges (b ∷ k) p q at = ⊎_elim
        (λ (e : sees r' p (b ∷ k) ≡ sees_from r' (r.child p b) k). ⊎_elim (λ (z : r.child p b ≡ 0). inl (e ∙ (sees_none r' (r.child p b) k z ∙ sym (sees_none r (r.child p b) k z)))) (λ (ne : r.child p b ≢ 0). further p b q k e ne (publish records edges k (r.child p b) (q ++ b ∷ []) (closed p q b at ne))) (cases_eq (r.child p b) 0))
        (λ t. inr t) (edges p b q k at)
