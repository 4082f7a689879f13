-- The greatest child below a byte and the least above it, among places whose bytes rise.
use Rattle.std.proofs.Common.{◌≡◌, ℕ, zero, suc, ◌+◌, ◌-◌, ◌<◌, ◌≤◌, Bool, true, false, List, [], ◌∷◌, ◌++◌, map, Option, Some, None, refl, sym, ◌∙◌, ap, arith, inl, inr}
use Rattle.std.proofs.Math.Nat.{eq-or-lt_of_le}
use Rattle.std.proofs.lemmas.Bool.Decides.{nat_tests}
use Rattle.std.proofs.lemmas.List.FromFn.{map-range_with_len_more}
use Rattle.std.specs.Prelude.{if◌then◌else◌, nat_lt}
use Rattle.std.specs.List.{range_with_len}
use Rattle.bti_nodes.specs.declared.node.Child.{Child}
use Rattle.bti_nodes.specs.declared.table.Kind.{Kind}
use Rattle.bti_nodes.specs.Grammar.{KeepsView, letter_at, distance_at, child_at_distance, child_by}
use Rattle.bti_nodes.specs.Children.{child_or, if_child, first_child, last_child, any, child_below, child_above}
use Rattle.bti_nodes.proofs.Climbing.{letters_up}
use Rattle.bti_nodes.proofs.Found.{rises}

-- the children at n places from a on
abbrev spread : (ℕ → ℕ) → (ℕ → ℕ) → ℕ → ℕ → List (Option Child)
spread letter d a n = map (λ i. child_at_distance (letter i) (d i)) (range_with_len a n)

pick : (t : Bool) (c : Option Child) → t ≡ true → (if t then c else None) ≡ c
pick true c h = refl
pick false c h = cc

drop_it : (t : Bool) (c : Option Child) → t ≡ false → (if t then c else None) ≡ None
drop_it true c h = cc
drop_it false c h = refl

passes : (p : ℕ → Bool) (l d : ℕ) → p l ≡ true → if_child p (child_at_distance l d) ≡ child_at_distance l d
passes p l zero h = refl
passes p l (suc d) h = pick (p l) (child_at_distance l (suc d)) h

fails : (p : ℕ → Bool) (l d : ℕ) → p l ≡ false → if_child p (child_at_distance l d) ≡ None
fails p l zero h = refl
fails p l (suc d) h = drop_it (p l) (child_at_distance l (suc d)) h

pub any_child : (c : Option Child) → if_child any c ≡ c
any_child None = refl
any_child (Some c) = refl

first_all : (letter d : ℕ → ℕ) (p : ℕ → Bool) (a n : ℕ) → ((i : ℕ) → a ≤ i → i < a + n → p (letter i) ≡ true) → first_child p (spread letter d a n) ≡ first_child any (spread letter d a n)
first_all letter d p a zero h = refl
first_all letter d p a (suc n) h =
    ap (λ x. child_or x (first_child p (spread letter d (a + 1) n))) (passes p (letter a) (d a) (h a (omega arith) (omega arith)) ∙ sym (any_child (child_at_distance (letter a) (d a))))
    ∙ ap (child_or (if_child any (child_at_distance (letter a) (d a)))) (first_all letter d p (a + 1) n (λ i l m. h i (omega arith) (omega arith)))

-- where the first places fail the test and the others pass it, the first that passes is the first of the others
pub first_split : (letter d : ℕ → ℕ) (p : ℕ → Bool) (a b n m : ℕ) → a ≤ b → b + n ≡ a + m → ((i : ℕ) → a ≤ i → i < b → p (letter i) ≡ false) → ((i : ℕ) → b ≤ i → i < b + n → p (letter i) ≡ true)
    → first_child p (spread letter d a m) ≡ first_child any (spread letter d b n)
first_split letter d p a b zero zero l e f t = refl
first_split letter d p a b (suc n) zero l e f t = absurd (omega arith)
first_split letter d p a b n (suc m) l e f t =
    elim (eq-or-lt_of_le l) as (λ _. first_child p (spread letter d a (suc m)) ≡ first_child any (spread letter d b n)) [
      | inl same ↦ (let count : suc m ≡ n = omega arith in
          first_all letter d p a (suc m) (λ i x y. t i (omega arith) (omega arith)) ∙ ap (λ k. first_child any (spread letter d a k)) count ∙ ap (λ k. first_child any (spread letter d k n)) same)
      | inr less ↦ ap (λ x. child_or x (first_child p (spread letter d (a + 1) m))) (fails p (letter a) (d a) (f a (omega arith) less))
          ∙ first_split letter d p (a + 1) b n m (omega arith) (omega arith) (λ i x y. f i (omega arith) y) t
    ]

last_none : (letter d : ℕ → ℕ) (p : ℕ → Bool) (a n : ℕ) → ((i : ℕ) → a ≤ i → i < a + n → p (letter i) ≡ false) → last_child p (spread letter d a n) ≡ None
last_none letter d p a zero h = refl
last_none letter d p a (suc n) h =
    ap (λ x. child_or x (if_child p (child_at_distance (letter a) (d a)))) (last_none letter d p (a + 1) n (λ i l m. h i (omega arith) (omega arith)))
    ∙ fails p (letter a) (d a) (h a (omega arith) (omega arith))

-- where the first places pass the test and the others fail it, the last that passes is the last of the first
pub last_split : (letter d : ℕ → ℕ) (p : ℕ → Bool) (a k m : ℕ) → k ≤ m → ((i : ℕ) → a ≤ i → i < a + k → p (letter i) ≡ true) → ((i : ℕ) → a + k ≤ i → i < a + m → p (letter i) ≡ false)
    → last_child p (spread letter d a m) ≡ last_child any (spread letter d a k)
last_split letter d p a zero m l t f = last_none letter d p a m (λ i x y. f i (omega arith) y)
last_split letter d p a (suc k) zero l t f = absurd (omega arith)
last_split letter d p a (suc k) (suc m) l t f =
    ap (λ x. child_or (last_child p (spread letter d (a + 1) m)) x) (passes p (letter a) (d a) (t a (omega arith) (omega arith)) ∙ sym (any_child (child_at_distance (letter a) (d a))))
    ∙ ap (λ x. child_or x (if_child any (child_at_distance (letter a) (d a)))) (last_split letter d p (a + 1) k m (omega arith) (λ i x y. t i (omega arith) (omega arith)) (λ i x y. f i (omega arith) (omega arith)))

pub letters_rise : (kind : Kind) (places : ℕ) (bytes : List ℕ) → KeepsView kind places bytes → (i j : ℕ) → i < j → j < places → letter_at kind.shape kind.width bytes i < letter_at kind.shape kind.width bytes j
letters_rise kind places bytes holds i j l m =
    rises (letter_at kind.shape kind.width bytes) places i j (λ k s. letters_up kind.shape kind.width places bytes holds.places_are (omega (arith, holds.stands)) holds.order k (omega arith)) l m

-- the last of the places whose bytes are less
pub greatest_below : (kind : Kind) (places n b : ℕ) (bytes : List ℕ) → n ≤ places
    → ((i : ℕ) → i < n → letter_at kind.shape kind.width bytes i < b) → ((i : ℕ) → n ≤ i → i < places → b ≤ letter_at kind.shape kind.width bytes i)
    → last_child any (map (child_by kind places bytes) (range_with_len 0 n)) ≡ child_below b (map (child_by kind places bytes) (range_with_len 0 places))
unfolding child_by
greatest_below kind places n b bytes l t f =
    let letter = letter_at kind.shape kind.width bytes in
    sym (last_split letter (distance_at kind.shape kind.width places bytes) (λ a. nat_lt a b) 0 n places l
    (λ i x y. let less = t i (omega arith) in grind (arith, nat_tests)) (λ i x y. let more = f i (omega arith) (omega arith) in grind (arith, nat_tests)))

-- the first of the places whose bytes are greater
pub least_above : (kind : Kind) (places n b : ℕ) (bytes : List ℕ) → n ≤ places
    → ((i : ℕ) → i < n → letter_at kind.shape kind.width bytes i ≤ b) → ((i : ℕ) → n ≤ i → i < places → b < letter_at kind.shape kind.width bytes i)
    → first_child any (map (child_by kind places bytes) (range_with_len n (places - n))) ≡ child_above b (map (child_by kind places bytes) (range_with_len 0 places))
unfolding child_by
least_above kind places n b bytes l t f =
    let letter = letter_at kind.shape kind.width bytes in
    sym (first_split letter (distance_at kind.shape kind.width places bytes) (λ a. nat_lt b a) 0 n (places - n) places (omega arith) (omega arith)
    (λ i x y. let less = t i y in grind (arith, nat_tests)) (λ i x y. let more = f i x (omega arith) in grind (arith, nat_tests)))

cut : (f : ℕ → Option Child) (i n : ℕ) → i < n → map f (range_with_len i (n - i)) ≡ f i ∷ map f (range_with_len (i + 1) (n - (i + 1)))
cut f i n l = let e : n - i ≡ suc (n - (i + 1)) = omega arith in rw e

-- a step of the search up: the place's child, or what the next places have
pub step_up : (f : ℕ → Option Child) (i n : ℕ) → i < n → first_child any (map f (range_with_len i (n - i))) ≡ child_or (f i) (first_child any (map f (range_with_len (i + 1) (n - (i + 1)))))
step_up f i n l = ap (first_child any) (cut f i n l) ∙ ap (λ x. child_or x (first_child any (map f (range_with_len (i + 1) (n - (i + 1)))))) (any_child (f i))

-- a step of the search down
either : (c l x : Option Child) → child_or (child_or c l) x ≡ child_or c (child_or l x)
either None l x = refl
either (Some c) l x = refl

alone : (c : Option Child) → child_or None (if_child any c) ≡ child_or c None
alone None = refl
alone (Some c) = refl

last_more : (cs : List (Option Child)) (c : Option Child) → last_child any (cs ++ c ∷ []) ≡ child_or c (last_child any cs)
last_more [] c = alone c
last_more (x ∷ cs) c = ap (λ l. child_or l (if_child any x)) (last_more cs c) ∙ either c (last_child any cs) (if_child any x)

pub step_down : (f : ℕ → Option Child) (n : ℕ) → last_child any (map f (range_with_len 0 (n + 1))) ≡ child_or (f n) (last_child any (map f (range_with_len 0 n)))
step_down f n = ap (last_child any) (map-range_with_len_more f 0 n n (omega arith)) ∙ last_more (map f (range_with_len 0 n)) (f n)
