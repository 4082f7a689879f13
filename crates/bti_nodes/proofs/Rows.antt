-- Rows of distances, place by place.
use Rattle.std.proofs.Common.{◌≡◌, ℕ, zero, suc, ◌+◌, ◌^◌, ◌<◌, ◌≤◌, Bool, true, false, List, [], ◌∷◌, length, take, map, get_or, refl, sym, ◌∙◌, ap, arith}
use Rattle.std.proofs.lemmas.List.{length-map, length-take-le, get_or-take}
use Rattle.std.proofs.lemmas.List.FromFn.{fill_by_all}
use Rattle.std.proofs.lemmas.Bool.Decides.{nat_tests}
use Rattle.std.specs.Prelude.{if◌then◌else◌, ◌==◌}
use Rattle.std.specs.List.{range_with_len, AllByRecursion}
use Rattle.bti_nodes.specs.declared.node.Child.{Child}
use Rattle.bti_nodes.specs.Spelling.{IsAscending, IsNear, distance_of, distance_under, greatest, first_letter, last_letter}

pub shifted : {X : Type 0} (f : ℕ → X) (a b n : ℕ) → map (λ k. f (a + k)) (range_with_len b n) ≡ map f (range_with_len (a + b) n)
shifted f a b zero = refl
shifted f a b (suc n) =
    let e : a + (b + 1) ≡ a + b + 1 = omega arith in
    ap (λ l. f (a + b) ∷ l) (shifted f a (b + 1) n ∙ ap (λ k. map f (range_with_len k n)) e)

-- a row whose items are f from a on
pub filled : (f : ℕ → ℕ) (a n : ℕ) (row : List ℕ) → n ≤ length row → ((k : ℕ) → k < n → get_or row k 0 ≡ f (a + k)) → take n row ≡ map f (range_with_len a n)
filled f a n row l h =
    let e : a + 0 ≡ a = omega arith in
    fill_by_all (λ k. f (a + k)) (take n row) n 0 (length-take-le n row l) (λ k s. get_or-take n row k 0 s ∙ h k s) ∙ shifted f a 0 n ∙ ap (λ k. map f (range_with_len k n)) e

abbrev pub no_child : Child
no_child = record { byte = 0; distance = 0 }

pub distance_is : (cs : List Child) (i : ℕ) → i < length cs → get_or (map distance_of cs) i 0 ≡ (get_or cs i no_child).distance
distance_is [] i l = absurd (omega arith)
distance_is (c ∷ cs) zero l = refl
distance_is (c ∷ cs) (suc i) l = distance_is cs i (omega arith)

-- a row whose items are the distances
pub lined : (cs : List Child) (row : List ℕ) → length cs ≤ length row → ((k : ℕ) → k < length cs → get_or row k 0 ≡ (get_or cs k no_child).distance) → take (length cs) row ≡ map distance_of cs
lined cs row l h =
    fill_by_all (λ k. (get_or cs k no_child).distance) (take (length cs) row) (length cs) 0 (length-take-le (length cs) row l) (λ k s. get_or-take (length cs) row k 0 s ∙ h k s)
    ∙ sym (fill_by_all (λ k. (get_or cs k no_child).distance) (map distance_of cs) (length cs) 0 (length-map cs distance_of) (distance_is cs))

skip : (t : Bool) (x y : ℕ) → t ≡ false → (if t then x else y) ≡ y
skip true x y h = cc
skip false x y h = refl

-- no child stands under a byte below all of them
pub absent : (low b : ℕ) (cs : List Child) → IsAscending low cs → b < low → distance_under cs b ≡ 0
absent low b [] h l = refl
absent low b (c ∷ cs) h l =
    skip (c.byte == b) c.distance (distance_under cs b) (let least = h.0 in grind (arith, nat_tests)) ∙ absent (c.byte + 1) b cs h.1 (omega (arith, h.0))

pub none_left : (b : ℕ) (cs : List Child) → length cs < 1 → 0 ≡ distance_under cs b
none_left b [] h = refl
none_left b (c ∷ cs) h = absurd (omega arith)

pub none_here : (b : ℕ) (cs : List Child) → IsAscending b cs → 1 ≤ length cs → ((get_or cs 0 no_child).byte ≡ b → ⊥) → 0 ≡ distance_under cs b
none_here b [] h l ne = absurd (omega arith)
none_here b (c ∷ cs) h l ne =
    sym (skip (c.byte == b) c.distance (distance_under cs b) (grind (arith, nat_tests)) ∙ absent (c.byte + 1) b cs h.1 (omega (arith, h.0)))

pub all_within : (cs : List Child) (n : ℕ) → greatest cs < n → AllByRecursion (λ d. d < n) (map distance_of cs)
all_within [] n h = tt
all_within (c ∷ cs) n h = (omega arith, all_within cs n (omega arith))

under_by : (t : Bool) (x y n : ℕ) → x ≤ n → y ≤ n → (if t then x else y) ≤ n
under_by true x y n a b = a
under_by false x y n a b = b

pub under_within : (cs : List Child) (b : ℕ) → distance_under cs b ≤ greatest cs
under_within [] b = omega arith
under_within (c ∷ cs) b = let h = under_within cs b in under_by (c.byte == b) c.distance (distance_under cs b) (greatest (c ∷ cs)) (omega arith) (omega (arith, h))

pub row_within : (cs : List Child) (a k n : ℕ) → greatest cs < n → AllByRecursion (λ d. d < n) (map (distance_under cs) (range_with_len a k))
row_within cs a zero n h = tt
row_within cs a (suc k) n h = (omega (arith, under_within cs a), row_within cs (a + 1) k n h)

pub last_from : (low : ℕ) (cs : List Child) → IsAscending low cs → first_letter cs ≤ last_letter cs
last_from low [] h = omega arith
last_from low (c ∷ []) h = omega arith
last_from low (c ∷ d ∷ cs) h = let k = last_from (c.byte + 1) (d ∷ cs) h.1 in omega (arith, k, h.1.0)

pub near_greatest : (cs : List Child) → AllByRecursion IsNear cs → greatest cs < 2 ^ 40
near_greatest [] h = omega arith
near_greatest (c ∷ cs) h = let k = near_greatest cs h.1 in omega (arith, k, h.0.1)
