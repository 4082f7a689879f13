-- Where the first line break stands.
use Rattle.std.proofs.Common.{◌≡◌, ◌≢◌, ℕ, ◌==◌, ◌+◌, ◌<◌, Bool, true, false, cond, Option, None, Some, List, [], ◌∷◌, length, take, drop, refl, sym, ◌∙◌, arith, ap, add-one, zero, suc}
use Rattle.std.specs.List.{position_from}
use Rattle.memchr.specs.Find.{IsFirstByte, is_byte}
use Rattle.script_text.specs.Lines.{lines_of, onto_first}

-- ---- the search for a byte

abbrev by_first : ℕ → Option ℕ → Option ℕ
by_first i None = None
by_first i (Some k) = Some (i + k)

place_by : (t : Bool) (i b : ℕ) (bs : List ℕ) (r : Option ℕ) → ((s : Option ℕ) → IsFirstByte (is_byte 10) bs s → position_from (λ b. b == 10) (i + 1) bs ≡ by_first (i + 1) s)
    → (b == 10) ≡ t → IsFirstByte (is_byte 10) (b ∷ bs) r → cond t (Some i) (position_from (λ b. b == 10) (i + 1) bs) ≡ by_first i r
place_by true i b bs None ih e h = absurd (h 0 (omega arith) (omega arith) e)
place_by true i b bs (Some zero) ih e h = ap Some (omega arith)
place_by true i b bs (Some (suc k)) ih e h = absurd (h.0.before 0 (omega arith) (omega arith) e)
place_by false i b bs None ih e h = ih None (λ k l m. h (suc k) (omega arith) (omega arith))
place_by false i b bs (Some zero) ih e h = absurd (let yes : (b == 10) ≡ true = h.1 in cc)
place_by false i b bs (Some (suc k)) ih e h =
    ih (Some k) (record { low = omega arith; high = (let l = h.0.high in omega arith); before = λ j l m. h.0.before (suc j) (omega arith) (omega arith) }, h.1) ∙ ap Some (omega arith)

place_from : (i : ℕ) (bs : List ℕ) (r : Option ℕ) → IsFirstByte (is_byte 10) bs r → position_from (λ b. b == 10) i bs ≡ by_first i r
place_from i [] None h = refl
place_from i [] (Some k) h = absurd (let l = h.0.high in omega arith)
place_from i (b ∷ bs) r h = place_by (b == 10) i b bs r (place_from (i + 1) bs) refl h

-- the place of the first line break is the one that the search finds
pub place : (bs : List ℕ) (r : Option ℕ) → IsFirstByte (is_byte 10) bs r → r ≡ position_from (λ b. b == 10) 0 bs
place bs None h = sym (place_from 0 bs None h)
place bs (Some k) h = ap Some (omega arith) ∙ sym (place_from 0 bs (Some k) h)

-- ---- the lines around it

-- no byte is a line break
by_none : (t : Bool) (i b : ℕ) (bs : List ℕ) → ((c : ℕ) (cs : List ℕ) → bs ≡ c ∷ cs → position_from (λ b. b == 10) (i + 1) bs ≡ None → lines_of bs ≡ bs ∷ [])
    → cond t (Some i) (position_from (λ b. b == 10) (i + 1) bs) ≡ None → cond t ([] ∷ lines_of bs) (onto_first b (lines_of bs)) ≡ (b ∷ bs) ∷ []
by_none true i b bs ih h = cc
by_none false i b [] ih h = refl
by_none false i b (c ∷ cs) ih h = ap (onto_first b) (ih c cs refl h)

no_break_at : (i : ℕ) (b : ℕ) (bs : List ℕ) → position_from (λ b. b == 10) i (b ∷ bs) ≡ None → lines_of (b ∷ bs) ≡ (b ∷ bs) ∷ []
no_break_at i b [] = by_none (b == 10) i b [] (λ c cs e h. cc)
no_break_at i b (c ∷ cs) = by_none (b == 10) i b (c ∷ cs) (λ d ds e h. no_break_at (i + 1) c cs h)

pub no_break : (bs : List ℕ) → bs ≢ [] → position_from (λ b. b == 10) 0 bs ≡ None → lines_of bs ≡ bs ∷ []
no_break [] n h = absurd (n refl)
no_break (b ∷ bs) n h = no_break_at 0 b bs h

pub record Stands (i at : ℕ) (bs : List ℕ) : Type 0 where
  pub steps : ℕ
  pub place : at ≡ i + steps
  pub within : steps < length bs
  pub lines : lines_of bs ≡ take steps bs ∷ lines_of (drop (steps + 1) bs)

by_some : (t : Bool) (i at b : ℕ) (bs : List ℕ) → (position_from (λ b. b == 10) (i + 1) bs ≡ Some at → Stands (i + 1) at bs)
    → (b == 10) ≡ t → cond t (Some i) (position_from (λ b. b == 10) (i + 1) bs) ≡ Some at → Stands i at (b ∷ bs)
by_some true i at b bs ih e h = record { steps = 0; place = (let same : Some i ≡ Some at = h in let e : i ≡ at = cc in omega arith); within = omega arith; lines = rw e refl }
by_some false i at b bs ih e h =
    let rest = ih h in
    record { steps = suc rest.steps; place = omega arith; within = omega arith; lines = rw (e, rest.lines, add-one (suc rest.steps), add-one rest.steps) refl }

stands_at : (i at : ℕ) (bs : List ℕ) → position_from (λ b. b == 10) i bs ≡ Some at → Stands i at bs
stands_at i at [] h = absurd (let no : None ≡ Some at = h in cc)
stands_at i at (b ∷ bs) h = by_some (b == 10) i at b bs (stands_at (i + 1) at bs) refl h

pub within : (at : ℕ) (bs : List ℕ) → position_from (λ b. b == 10) 0 bs ≡ Some at → at < length bs
within at bs h = let s = stands_at 0 at bs h in omega (arith, s.place, s.within)

pub lines : (at : ℕ) (bs : List ℕ) → position_from (λ b. b == 10) 0 bs ≡ Some at → lines_of bs ≡ take at bs ∷ lines_of (drop (at + 1) bs)
lines at bs h = let s = stands_at 0 at bs h in let e : at ≡ s.steps = omega (arith, s.place) in rw e s.lines
