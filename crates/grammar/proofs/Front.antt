-- Readings that stop before they have read anything.
use Rattle.std.proofs.Common.{◌≡◌, ℕ, List, [], ◌∷◌, length, Err, refl, subst}
use Rattle.grammar.specs.Exact.{Read, StopsAt, Viable}

-- at the first byte, which is refused whatever follows it
pub stops_first : {A : Type 0} (read : Read A) (Is : A → List ℕ → Type 0) (b : ℕ) (bs : List ℕ) (left : ℕ)
    → left ≡ length (b ∷ bs) → Viable Is [] → ((cs : List ℕ) → read (b ∷ cs) ≡ Err (length (b ∷ cs))) → StopsAt read Is (b ∷ bs) left
stops_first read Is b bs left count some refused = record {
  front = [];
  rest = b ∷ bs;
  parts = refl;
  count = count;
  goes_on = some;
  no_further = λ d ds is cs. let same : b ≡ d = cc in subst (λ (x : ℕ). read (x ∷ cs) ≡ Err (length (x ∷ cs))) same (refused cs);
}

-- where there are no bytes
pub stops_empty : {A : Type 0} (read : Read A) (Is : A → List ℕ → Type 0) (left : ℕ) → left ≡ 0 → Viable Is [] → StopsAt read Is [] left
stops_empty read Is left count some = record { front = []; rest = []; parts = refl; count = count; goes_on = some; no_further = λ d ds is cs. cc }
