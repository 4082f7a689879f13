-- The places of a node, one by one.
use Rattle.std.proofs.Common.{◌≡◌, ℕ, zero, suc, ◌+◌, ◌-◌, ◌<◌, ◌≤◌, Bool, true, false, List, [], ◌∷◌, map, Option, IsTrue, refl, sym, ◌∙◌, ap, arith, inl, inr}
use Rattle.std.proofs.Math.Nat.{eq-or-lt_of_le}
use Rattle.std.proofs.lemmas.Bool.Decides.{nat_tests}
use Rattle.std.specs.Prelude.{◌&&◌, if◌then◌else◌, nat_lt, nat_le}
use Rattle.std.specs.List.{range_with_len}
use Rattle.bti_nodes.specs.declared.table.Kind.{Kind}
use Rattle.bti_nodes.specs.declared.table.Shape.{Shape}
use Rattle.bti_nodes.specs.declared.table.Shape.TheVariants.{Leaf, Short, Single, Sparse, Dense}
use Rattle.bti_nodes.specs.declared.node.Child.{Child}
use Rattle.bti_nodes.specs.Grammar.{child_under, is_under, AllBack, IsBack, child_by, child_at_distance, letter_at, distance_at, each_below, points_back, all_point_back, node_by}

skip : (b : ℕ) (c : Option Child) (cs : List (Option Child)) (t : Bool) → is_under b c ≡ t → t ≡ false → (if t then c else child_under b cs) ≡ child_under b cs
skip b c cs true e h = cc
skip b c cs false e h = refl

take_it : (b : ℕ) (c : Option Child) (cs : List (Option Child)) (t : Bool) → t ≡ true → (if t then c else child_under b cs) ≡ c
take_it b c cs true h = refl
take_it b c cs false h = cc

cut : (f : ℕ → Option Child) (i n : ℕ) → i < n → map f (range_with_len i (n - i)) ≡ f i ∷ map f (range_with_len (i + 1) (n - (i + 1)))
cut f i n l = let e : n - i ≡ suc (n - (i + 1)) = omega arith in rw e

pub goes_on : (f : ℕ → Option Child) (b i n : ℕ) (x : Option Child) → i < n → is_under b (f i) ≡ false → child_under b (map f (range_with_len i (n - i))) ≡ x → child_under b (map f (range_with_len (i + 1) (n - (i + 1)))) ≡ x
goes_on f b i n x l h e =
    sym (skip b (f i) (map f (range_with_len (i + 1) (n - (i + 1)))) (is_under b (f i)) refl h) ∙ sym (ap (child_under b) (cut f i n l)) ∙ e

pub is_found : (f : ℕ → Option Child) (b i n : ℕ) (x : Option Child) → i < n → is_under b (f i) ≡ true → child_under b (map f (range_with_len i (n - i))) ≡ x → f i ≡ x
is_found f b i n x l h e =
    sym (take_it b (f i) (map f (range_with_len (i + 1) (n - (i + 1)))) (is_under b (f i)) h) ∙ sym (ap (child_under b) (cut f i n l)) ∙ e

both_true : (a b : Bool) → IsTrue (a && b) → IsTrue a × IsTrue b
both_true true b h = (refl, h)
both_true false b h = cc

pub at_each : (n i : ℕ) (p : ℕ → Bool) → IsTrue (each_below n p) → i < n → IsTrue (p i)
at_each zero i p h l = absurd (omega arith)
at_each (suc n) i p h l =
    let two = both_true (each_below n p) (p n) h in
    elim (eq-or-lt_of_le {n = i} {m = n} (omega arith)) as (λ _. IsTrue (p i)) [ inl same ↦ ap p same ∙ two.1 | inr less ↦ at_each n i p two.0 less ]

inside : (b : Bool) (position distance : ℕ) → IsTrue (if b then nat_le distance position else nat_lt 0 distance && nat_le distance position) → distance ≤ position
inside true position distance h = grind (arith, nat_tests)
inside false position distance h = let two = both_true (nat_lt 0 distance) (nat_le distance position) h in grind (arith, nat_tests)

no_farther : (shape : Shape) (places position i distance : ℕ) → IsTrue (points_back shape places position i distance) → distance ≤ position
no_farther Leaf places position i distance h = inside false position distance h
no_farther Short places position i distance h = inside false position distance h
no_farther Single places position i distance h = inside false position distance h
no_farther Sparse places position i distance h = inside false position distance h
no_farther Dense places position i distance h = inside (nat_lt 0 i && nat_lt (i + 1) places) position distance h

is_back : (letter position distance : ℕ) → distance ≤ position → IsBack position (child_at_distance letter distance)
is_back letter position zero h = tt
is_back letter position (suc d) h = (omega arith, h)

all_from : (f : ℕ → Option Child) (position a n : ℕ) → ((i : ℕ) → a ≤ i → i < a + n → IsBack position (f i)) → AllBack position (map f (range_with_len a n))
all_from f position a zero h = tt
all_from f position a (suc n) h = (h a (omega arith) (omega arith), all_from f position (a + 1) n (λ i l u. h i (omega arith) (omega arith)))

pub all_back : (kind : Kind) (places : ℕ) (bytes : List ℕ) (position : ℕ) → IsTrue (all_point_back kind places bytes position) → AllBack position (node_by kind places bytes).places
unfolding node_by all_point_back child_by
all_back kind places bytes position h =
    all_from (child_by kind places bytes) position 0 places (λ i l u.
    is_back (letter_at kind.shape kind.width bytes i) position (distance_at kind.shape kind.width places bytes i)
    (no_farther kind.shape places position i (distance_at kind.shape kind.width places bytes i) (at_each places i _ h (omega arith))))

pub child_back : (b position : ℕ) (cs : List (Option Child)) → AllBack position cs → IsBack position (child_under b cs)
child_back b position [] h = tt
child_back b position (c ∷ cs) h = elim (is_under b c) as (λ t. IsBack position (if t then c else child_under b cs)) [ true ↦ h.0 | false ↦ child_back b position cs h.1 ]
