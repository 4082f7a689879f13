-- The type of least size.
use Rattle.std.proofs.Common.{◌≡◌, ℕ, zero, suc, ◌+◌, ◌*◌, ◌^◌, ◌<◌, ◌≤◌, Bool, true, false, List, [], ◌∷◌, length, refl, sym, ◌∙◌, ap, subst, arith, inl, inr}
use Rattle.std.proofs.Math.Nat.{eq-or-lt_of_le}
use Rattle.std.proofs.lemmas.Bool.Decides.{nat_tests}
use Rattle.std.proofs.lemmas.Bool.{cases_lt}
use Rattle.std.specs.Prelude.{if◌then◌else◌, nat_lt, nat_le, ◌&&◌, ◌==◌}
use Rattle.std.specs.List.{AllByRecursion}
use Rattle.bti_nodes.specs.declared.table.Kind.{Kind}
use Rattle.bti_nodes.specs.declared.table.Shape.{Shape}
use Rattle.bti_nodes.specs.declared.table.Shape.TheVariants.{Leaf, Short, Single, Sparse, Dense}
use Rattle.bti_nodes.specs.declared.node.Child.{Child}
use Rattle.bti_nodes.specs.declared.outline.Outline.{Outline}
use Rattle.bti_nodes.specs.Spelling.{Parts, IsNear, outline_by, size_by, places_for, outline_size, node_size, node_weight, chosen, kind_of_number, greatest, last_letter, holds, shape_holds, least_from, distant}
use Rattle.bti_nodes.specs.Laws.{IsNoWorse, IsChoice}
use Rattle.bti_nodes.proofs.Rows.{near_greatest}

-- the better of n and rest is no worse than n
than_own : (a b : Bool) (n rest : ℕ) (o : Outline) → a ≡ true → nat_le (size_by n o) (size_by rest o) ≡ b → IsNoWorse o (if a && b then n else rest) n
than_own true true n rest o h e = (omega arith, λ _. omega arith)
than_own true false n rest o h e = (grind (arith, nat_tests), λ l. grind (arith, nat_tests))
than_own false b n rest o h e = cc

-- nor than what rest is no worse than, if that comes later
than_rest : (a b : Bool) (n rest j : ℕ) (o : Outline) → n < j → nat_le (size_by n o) (size_by rest o) ≡ b → IsNoWorse o rest j → IsNoWorse o (if a && b then n else rest) j
than_rest true true n rest j o l e h = let less = h.0 in (grind (arith, nat_tests), λ _. omega arith)
than_rest true false n rest j o l e h = h
than_rest false b n rest j o l e h = h

reaches : (k n j : ℕ) (o : Outline) → n ≤ j → j ≤ n + k → holds (kind_of_number j) o ≡ true → IsNoWorse o (least_from k n o) j
unfolding least_from
reaches zero n j o low high h =
    let same : n ≡ j = omega arith in
    (omega (arith, ap (λ i. size_by i o) same), λ _. low)
reaches (suc k) n j o low high h =
    let rest = least_from k (suc n) o in
    elim (eq-or-lt_of_le low) as (λ _. IsNoWorse o (least_from (suc k) n o) j) [
      | inl same ↦ subst (λ i. IsNoWorse o (least_from (suc k) n o) i) same (than_own (holds (kind_of_number n) o) (nat_le (size_by n o) (size_by rest o)) n rest o (ap (λ i. holds (kind_of_number i) o) same ∙ h) refl)
      | inr less ↦ than_rest (holds (kind_of_number n) o) (nat_le (size_by n o) (size_by rest o)) n rest j o less refl (reaches k (suc n) j o (omega arith) (omega arith) h)
    ]

held_better : (a b : Bool) (n rest : ℕ) (o : Outline) → holds (kind_of_number n) o ≡ a → holds (kind_of_number rest) o ≡ true → holds (kind_of_number (if a && b then n else rest)) o ≡ true
held_better true true n rest o e h = e
held_better true false n rest o e h = h
held_better false b n rest o e h = h

holding : (k n : ℕ) (o : Outline) → holds (kind_of_number (n + k)) o ≡ true → holds (kind_of_number (least_from k n o)) o ≡ true
unfolding least_from
holding zero n o h = let e : n ≡ n + 0 = omega arith in ap (λ i. holds (kind_of_number i) o) e ∙ h
holding (suc k) n o h =
    let e : suc n + k ≡ n + suc k = omega arith in
    held_better (holds (kind_of_number n) o) (nat_le (size_by n o) (size_by (least_from k (suc n) o) o)) n (least_from k (suc n) o) o refl (holding k (suc n) o (ap (λ i. holds (kind_of_number i) o) e ∙ h))

between : (t : Bool) (n rest high : ℕ) → n ≤ high → suc n ≤ rest → rest ≤ high → (n ≤ (if t then n else rest)) × ((if t then n else rest) ≤ high)
between true n rest high a b c = (omega arith, a)
between false n rest high a b c = (omega arith, c)

within : (k n : ℕ) (o : Outline) → (n ≤ least_from k n o) × (least_from k n o ≤ n + k)
unfolding least_from
within zero n o = (omega arith, omega arith)
within (suc k) n o =
    let h = within k (suc n) o in
    between (holds (kind_of_number n) o && nat_le (size_by n o) (size_by (least_from k (suc n) o) o)) n (least_from k (suc n) o) (n + suc k) (omega arith) h.0 (omega (arith, h.1))

without : (t : Bool) (n : ℕ) → t ≡ false → (if t then 0 else n) ≡ n
without true n h = cc
without false n h = refl

from_one : (o : Outline) → 0 < o.count → chosen o ≡ least_from 13 1 o
unfolding chosen
from_one o some = without (o.count == 0) (least_from 13 1 o) (grind (arith, nat_tests))

sparse_40 : (o : Outline) → 0 < o.count → o.count < 256 → o.greatest < 2 ^ 40 → holds (kind_of_number 9) o ≡ true
sparse_40 o a b c = grind (arith, nat_tests)

dense_40 : (o : Outline) → 0 < o.count → o.greatest < 2 ^ 40 → holds (kind_of_number 14) o ≡ true
dense_40 o a c = grind (arith, nat_tests)

pub is_choice : (o : Outline) → 0 < o.count → o.greatest < 2 ^ 40 → IsChoice o (chosen o)
is_choice o some near =
    let found : IsChoice o (least_from 13 1 o) = record {
      written = within 13 1 o;
      held = holding 13 1 o (dense_40 o some near);
      least = λ m low high h. reaches 13 1 m o low high h;
    } in
    subst (λ n. IsChoice o n) (sym (from_one o some)) found

and_second : (a b : Bool) → (a && b) ≡ true → b ≡ true
and_second true b h = h
and_second false b h = cc

pub fits_held : (kind : Kind) (o : Outline) → holds kind o ≡ true → o.greatest < 2 ^ kind.width
fits_held kind o h = let t : nat_lt o.greatest (2 ^ kind.width) ≡ true = and_second (shape_holds kind.shape o) (nat_lt o.greatest (2 ^ kind.width)) h in grind (arith, nat_tests)

-- the distances of a node fit the type in which it is written
pub fits_chosen : (n : ℕ) (cs : List Child) → AllByRecursion IsNear cs → greatest cs < 2 ^ (kind_of_number (chosen (outline_by n cs))).width
unfolding chosen
fits_chosen n [] h = omega arith
fits_chosen n (c ∷ cs) h =
    let o = outline_by n (c ∷ cs) in
    fits_held (kind_of_number (chosen o)) o (is_choice o (omega arith) (near_greatest (c ∷ cs) h)).held

same_places : (shape : Shape) (o : Outline) → places_for shape (distant o) ≡ places_for shape o
same_places Leaf o = refl
same_places Short o = refl
same_places Single o = refl
same_places Sparse o = refl
same_places Dense o = refl

same_size : (m : ℕ) (o : Outline) → size_by m (distant o) ≡ size_by m o
same_size m o = rw (same_places (kind_of_number m).shape o)

same_hold : (shape : Shape) (o : Outline) → shape_holds shape (distant o) ≡ shape_holds shape o
same_hold Leaf o = refl
same_hold Short o = refl
same_hold Single o = refl
same_hold Sparse o = refl
same_hold Dense o = refl

and_less : (a b : Bool) (g l n : ℕ) → a ≡ b → g ≤ l → (a && nat_lt l n) ≡ true → (b && nat_lt g n) ≡ true
and_less true true g l n e h k = grind (arith, nat_tests)
and_less true false g l n e h k = cc
and_less false b g l n e h k = cc

weight_of_some : (o : Outline) → 0 < o.count → o.greatest ≤ 4095 → outline_size o ≤ outline_size (distant o)
unfolding outline_size
weight_of_some o some h =
    let q = distant o in
    let far : q.greatest ≡ 4095 = without (o.count == 0) 4095 (grind (arith, nat_tests)) in
    let choice = is_choice q some (omega (arith, far)) in
    let m = chosen q in
    let held : holds (kind_of_number m) o ≡ true = and_less (shape_holds (kind_of_number m).shape q) (shape_holds (kind_of_number m).shape o) o.greatest q.greatest (2 ^ (kind_of_number m).width) (same_hold (kind_of_number m).shape o) (omega (arith, far)) choice.held in
    let least = (is_choice o some (omega arith)).least m choice.written.0 choice.written.1 held in
    omega (arith, same_size m o, least.0)

by_children : (n : ℕ) (cs : List Child) → greatest cs ≤ 4095 → outline_size (outline_by n cs) ≤ outline_size (distant (outline_by n cs))
unfolding outline_size chosen
by_children n [] h = omega arith
by_children n (c ∷ cs) h = weight_of_some (outline_by n (c ∷ cs)) (omega arith) h

pub weight_bounds : (p : Parts) → greatest p.children ≤ 4095 → node_size p ≤ node_weight p
weight_bounds p h = by_children (length p.payload) p.children h

pub by_outline : (o : Outline) → 0 < o.count → o.payload ≤ 7 → o.count ≤ 256 → o.last < 256 → o.greatest < 2 ^ 40 → outline_size o ≤ 9 + 6 * o.count
unfolding outline_size
by_outline o some a b l g =
    let choice = is_choice o some g in
    elim (cases_lt o.count 256) as (λ _. size_by (chosen o) o ≤ 9 + 6 * o.count) [
      | inl few ↦ (let h = choice.least 9 (omega arith) (omega arith) (sparse_40 o some few g) in omega (arith, h.0))
      | inr all ↦ (let h = choice.least 14 (omega arith) (omega arith) (dense_40 o some g) in omega (arith, h.0, l))
    ]

by_count : (n : ℕ) (cs : List Child) → n ≤ 7 → length cs ≤ 256 → last_letter cs < 256 → greatest cs < 2 ^ 40 → outline_size (outline_by n cs) ≤ 9 + 6 * length cs
unfolding outline_size chosen
by_count n [] a b l g = omega arith
by_count n (c ∷ cs) a b l g = by_outline (outline_by n (c ∷ cs)) (omega arith) a b l g

pub size_by_children : (p : Parts) → length p.payload ≤ 7 → length p.children ≤ 256 → last_letter p.children < 256 → greatest p.children < 2 ^ 40 → node_size p ≤ 9 + 6 * length p.children
size_by_children p a b l g = by_count (length p.payload) p.children a b l g
