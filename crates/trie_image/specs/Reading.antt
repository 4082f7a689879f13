-- A trie as two functions of its pointers, whatever its representation is: the record at a pointer, and its child at a
-- byte. What a pointer sees for a key is defined on these two alone. This project's own.
use Rattle.std.specs.Prelude.{◌≡◌, ◌≢◌, ◌⊎◌, ℕ, ◌==◌, if◌then◌else◌, List, [], ◌∷◌, ◌++◌, Option, Some, None}

-- the record at a pointer, and its child at a byte; 0 is none
pub record Reading : Type 0 where
  pub record_at : ℕ → Option ℕ
  pub child : ℕ → ℕ → ℕ

-- the record that a pointer other than 0 sees for a key
abbrev pub sees : Reading → ℕ → List ℕ → Option ℕ
sees r p [] = r.record_at p
sees r p (b ∷ k) = if r.child p b == 0 then None else sees r (r.child p b) k

-- the same where the pointer may be 0
abbrev pub sees_from : Reading → ℕ → List ℕ → Option ℕ
sees_from r p k = if p == 0 then None else sees r p k

-- children have their parent's path and one byte more
abbrev pub Closed : Reading → (ℕ → List ℕ → Type 0) → Type 0
Closed r path = (p : ℕ) (q : List ℕ) (b : ℕ) → path p q → r.child p b ≢ 0 → path (r.child p b) (q ++ b ∷ [])

-- the pointer takes these bytes one by one, sees nothing on the way, and is then x
abbrev pub Reads : Reading → ℕ → List ℕ → ℕ → Type 0
Reads r p [] x = p ≡ x
Reads r p (b ∷ bs) x = (p ≢ 0) × (r.record_at p ≡ None) × ((a : ℕ) → a ≢ b → r.child p a ≡ 0) × Reads r (r.child p b) bs x

-- p' sees what p sees, but for the rest, where it sees the new record
abbrev pub Better : Reading → ℕ → ℕ → List ℕ → ℕ → Type 0
Better r p p' rest new = (k : List ℕ) → ((k ≡ rest) × (sees_from r p' k ≡ Some new)) ⊎ ((k ≡ rest → ⊥) × (sees_from r p' k ≡ sees_from r p k))

-- what one Publish does to an edge of a pointer with path q: nothing; p' in place of p, which both have the path h; or
-- all edges of a prefix cell over p, which is then over p'
abbrev pub Changes : Reading → Reading → ℕ → ℕ → List ℕ → ℕ → List ℕ → ℕ → Type 0
Changes r r' p p' h a q b = (r'.child a b ≡ r.child a b) ⊎ (((q ++ b ∷ [] ≡ h) × (r.child a b ≡ p) × (r'.child a b ≡ p')) ⊎ ((q ≡ h) × (p ≢ 0) × (p' ≢ 0) × (r.child a b ≡ r'.child p b) × (r'.child a b ≡ r'.child p' b)))
