-- The child under a byte, among places whose bytes rise.
use Rattle.std.proofs.Common.{◌≡◌, ◌≢◌, ℕ, zero, suc, ◌+◌, ◌<◌, ◌≤◌, Bool, true, false, List, ◌∷◌, length, map, get_or, Option, None, refl, sym, ◌∙◌, ap, subst, arith, inl, inr}
use Rattle.std.proofs.Math.Nat.{eq-or-lt_of_le}
use Rattle.std.proofs.lemmas.Bool.Decides.{nat_tests}
use Rattle.std.proofs.lemmas.Bool.{cases_lt}
use Rattle.std.specs.Prelude.{if◌then◌else◌, ◌==◌}
use Rattle.std.specs.List.{range_with_len}
use Rattle.bti_nodes.specs.declared.node.Child.{Child}
use Rattle.bti_nodes.specs.declared.table.Kind.{Kind}
use Rattle.bti_nodes.specs.Grammar.{KeepsView, ascends, letter_at, distance_at, child_at_distance, child_by, child_under, is_under}
use Rattle.bti_nodes.proofs.Climbing.{goes_up, letters_up}

-- what rises from each number to the next rises
pub rises : (f : ℕ → ℕ) (n i j : ℕ) → ((k : ℕ) → k + 1 < n → f k < f (k + 1)) → i < j → j < n → f i < f j
rises f n i zero up l m = absurd (omega arith)
rises f n i (suc j) up l m =
    let e : j + 1 ≡ suc j = omega arith in
    let step : f j < f (suc j) = subst (λ k. f j < f k) e (up j (omega arith)) in
    elim (eq-or-lt_of_le {n = i} {m = j} (omega arith)) as (λ _. f i < f (suc j)) [
      | inl same ↦ omega (arith, step, ap f same)
      | inr less ↦ omega (arith, step, rises f n i j up less (omega arith))
    ]

pub no_lower : (xs : List ℕ) → ascends xs ≡ true → (i j : ℕ) → i ≤ j → j < length xs → get_or xs i 0 ≤ get_or xs j 0
no_lower xs h i j l m =
    elim (eq-or-lt_of_le l) as (λ _. get_or xs i 0 ≤ get_or xs j 0) [
      | inl same ↦ omega (arith, ap (λ k. get_or xs k 0) same)
      | inr less ↦ (let up = rises (λ k. get_or xs k 0) (length xs) i j (λ k s. goes_up xs k h s) less m in omega (arith, up))
    ]

other : (b letter d : ℕ) → letter ≢ b → is_under b (child_at_distance letter d) ≡ false
other b letter zero ne = refl
other b letter (suc d) ne = grind (arith, nat_tests)

pass : (b : ℕ) (c : Option Child) (cs : List (Option Child)) (t : Bool) → t ≡ false → (if t then c else child_under b cs) ≡ child_under b cs
pass b c cs true h = cc
pass b c cs false h = refl

none_under : (letter d : ℕ → ℕ) (b a n : ℕ) → ((i : ℕ) → a ≤ i → i < a + n → letter i ≢ b) → child_under b (map (λ i. child_at_distance (letter i) (d i)) (range_with_len a n)) ≡ None
none_under letter d b a zero h = refl
none_under letter d b a (suc n) h =
    pass b (child_at_distance (letter a) (d a)) (map (λ i. child_at_distance (letter i) (d i)) (range_with_len (a + 1) n)) (is_under b (child_at_distance (letter a) (d a))) (other b (letter a) (d a) (h a (omega arith) (omega arith)))
    ∙ none_under letter d b (a + 1) n (λ i l m. h i (omega arith) (omega arith))

pick : (t : Bool) (c d : Option Child) → t ≡ true → (if t then c else d) ≡ c
pick true c d h = refl
pick false c d h = cc

here : (letter d b : ℕ) (cs : List (Option Child)) → letter ≡ b → child_under b cs ≡ None → child_under b (child_at_distance letter d ∷ cs) ≡ child_at_distance letter d
here letter zero b cs e h = h
here letter (suc d) b cs e h = pick (letter == b) (child_at_distance letter (suc d)) (child_under b cs) (grind (arith, nat_tests))

found_under : (letter d : ℕ → ℕ) (b a n i : ℕ) → a ≤ i → i < a + n → letter i ≡ b → ((j : ℕ) → a ≤ j → j < a + n → j ≢ i → letter j ≢ b) → child_under b (map (λ i. child_at_distance (letter i) (d i)) (range_with_len a n)) ≡ child_at_distance (letter i) (d i)
found_under letter d b a zero i l m e h = absurd (omega arith)
found_under letter d b a (suc n) i l m e h =
    let rest = map (λ i. child_at_distance (letter i) (d i)) (range_with_len (a + 1) n) in
    elim (eq-or-lt_of_le l) as (λ _. child_under b (child_at_distance (letter a) (d a) ∷ rest) ≡ child_at_distance (letter i) (d i)) [
      | inl same ↦ here (letter a) (d a) b rest (ap letter same ∙ e) (none_under letter d b (a + 1) n (λ j l m. h j (omega arith) (omega arith) (omega arith))) ∙ ap (λ k. child_at_distance (letter k) (d k)) same
      | inr less ↦ pass b (child_at_distance (letter a) (d a)) rest (is_under b (child_at_distance (letter a) (d a))) (other b (letter a) (d a) (h a (omega arith) (omega arith) (omega arith)))
          ∙ found_under letter d b (a + 1) n i (omega arith) (omega arith) e (λ j l m ne. h j (omega arith) (omega arith) ne)
    ]

-- no place of a node has the byte
pub none_found : (kind : Kind) (places b : ℕ) (bytes : List ℕ) → ((i : ℕ) → i < places → letter_at kind.shape kind.width bytes i ≢ b) → None ≡ child_under b (map (child_by kind places bytes) (range_with_len 0 places))
unfolding child_by
none_found kind places b bytes h =
    sym (none_under (letter_at kind.shape kind.width bytes) (distance_at kind.shape kind.width places bytes) b 0 places (λ i l m. h i (omega arith)))

equal : (f : ℕ → ℕ) (n i j : ℕ) → ((k : ℕ) → k + 1 < n → f k < f (k + 1)) → i < n → j < n → f i ≡ f j → j ≡ i
equal f n i j up a c same =
    elim (cases_lt i j) as (λ _. j ≡ i) [
      | inl low ↦ absurd (let r = rises f n i j up low c in omega (arith, r, same))
      | inr high ↦ elim (eq-or-lt_of_le high) as (λ _. j ≡ i) [ inl q ↦ q | inr low ↦ absurd (let r = rises f n j i up low a in omega (arith, r, same)) ]
    ]

-- one place has it, since the bytes rise
pub one_found : (kind : Kind) (places b i : ℕ) (bytes : List ℕ) → KeepsView kind places bytes → i < places → letter_at kind.shape kind.width bytes i ≡ b → child_by kind places bytes i ≡ child_under b (map (child_by kind places bytes) (range_with_len 0 places))
unfolding child_by
one_found kind places b i bytes holds l e =
    let letter = letter_at kind.shape kind.width bytes in
    let up : (k : ℕ) → k + 1 < places → letter k < letter (k + 1) = λ k s. letters_up kind.shape kind.width places bytes holds.places_are (omega (arith, holds.stands)) holds.order k (omega arith) in
    let apart : (j : ℕ) → 0 ≤ j → j < 0 + places → j ≢ i → letter j ≢ b = λ j z s ne same. ne (equal letter places i j up l (omega arith) (e ∙ sym same)) in
    sym (found_under letter (distance_at kind.shape kind.width places bytes) b 0 places i (omega arith) (omega arith) e apart)
