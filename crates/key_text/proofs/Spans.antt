-- Where the first quote stands.
use Rattle.std.proofs.Common.{◌≡◌, ℕ, ◌==◌, ◌+◌, ◌<◌, Bool, true, false, cond, None, Some, List, [], ◌∷◌, ◌++◌, length, take, drop, Result, Ok, Err, refl, sym, arith, add-one, suc}
use Rattle.std.specs.List.{position_from}
use Rattle.key_types.specs.Literals.{quotes_doubled}
use Rattle.key_text.specs.Reading.{quoted_at, behind_quote}
use Rattle.grammar.specs.Reading.{onto, with_front}

behind_nothing : (read : Result (List ℕ × List ℕ) ℕ) → with_front [] read ≡ read
behind_nothing (Ok x) = refl
behind_nothing (Err e) = refl

onto_behind : (b : ℕ) (front : List ℕ) (read : Result (List ℕ × List ℕ) ℕ) → onto b (with_front front read) ≡ with_front (b ∷ front) read
onto_behind b front (Ok x) = refl
onto_behind b front (Err e) = refl

-- ---- no quote

abbrev Plain : List ℕ → Type 0
Plain bs = (quoted_at bs ≡ Err 0) × (quotes_doubled bs ≡ bs)

by_none : (t : Bool) (i b : ℕ) (bs : List ℕ) → (position_from (λ b. b == 39) (i + 1) bs ≡ None → Plain bs) → (b == 39) ≡ t → cond t (Some i) (position_from (λ b. b == 39) (i + 1) bs) ≡ None → Plain (b ∷ bs)
by_none true i b bs ih e h = cc
by_none false i b bs ih e h = let rest = ih h in (rw (e, rest.0) refl, rw (e, rest.1) refl)

plain_from : (i : ℕ) (bs : List ℕ) → position_from (λ b. b == 39) i bs ≡ None → Plain bs
plain_from i [] h = (refl, refl)
plain_from i (b ∷ bs) h = by_none (b == 39) i b bs (plain_from (i + 1) bs) refl h

pub plain : (bs : List ℕ) → position_from (λ b. b == 39) 0 bs ≡ None → Plain bs
plain bs h = plain_from 0 bs h

-- ---- a quote

record Stands (i at : ℕ) (bs : List ℕ) : Type 0 where
  pub steps : ℕ
  pub place : at ≡ i + steps
  pub within : steps < length bs
  pub read : quoted_at bs ≡ with_front (take steps bs) (behind_quote (drop (steps + 1) bs))
  pub written : quotes_doubled bs ≡ take steps bs ++ 39 ∷ 39 ∷ quotes_doubled (drop (steps + 1) bs)

by_some : (t : Bool) (i at b : ℕ) (bs : List ℕ) → (position_from (λ b. b == 39) (i + 1) bs ≡ Some at → Stands (i + 1) at bs)
    → (b == 39) ≡ t → cond t (Some i) (position_from (λ b. b == 39) (i + 1) bs) ≡ Some at → Stands i at (b ∷ bs)
by_some true i at b bs ih e h = record {
  steps = 0;
  place = (let same : Some i ≡ Some at = h in let e : i ≡ at = cc in omega arith);
  within = omega arith;
  read = rw e (sym (behind_nothing (behind_quote bs)));
  written = rw e refl;
}
by_some false i at b bs ih e h =
    let rest = ih h in
    record {
      steps = suc rest.steps;
      place = omega arith;
      within = omega arith;
      read = rw (e, rest.read, add-one (suc rest.steps), add-one rest.steps) (onto_behind b (take rest.steps bs) (behind_quote (drop (suc rest.steps) bs)));
      written = rw (e, rest.written, add-one (suc rest.steps), add-one rest.steps) refl;
    }

stands_from : (i at : ℕ) (bs : List ℕ) → position_from (λ b. b == 39) i bs ≡ Some at → Stands i at bs
stands_from i at [] h = absurd (let no : None ≡ Some at = h in cc)
stands_from i at (b ∷ bs) h = by_some (b == 39) i at b bs (stands_from (i + 1) at bs) refl h

-- what the first quote splits
abbrev pub Split : ℕ → List ℕ → Type 0
Split at bs = (at < length bs) × (quoted_at bs ≡ with_front (take at bs) (behind_quote (drop (at + 1) bs))) × (quotes_doubled bs ≡ take at bs ++ 39 ∷ 39 ∷ quotes_doubled (drop (at + 1) bs))

pub split : (at : ℕ) (bs : List ℕ) → position_from (λ b. b == 39) 0 bs ≡ Some at → Split at bs
split at bs h = let s = stands_from 0 at bs h in let e : at ≡ s.steps = omega (arith, s.place) in rw e (s.within, s.read, s.written)
