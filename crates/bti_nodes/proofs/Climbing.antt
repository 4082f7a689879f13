-- The children of a node that was read: their bytes ascend, and they stand before it.
use Rattle.std.proofs.Common.{◌≡◌, ℕ, zero, suc, ◌+◌, ◌%◌, ◌<◌, ◌≤◌, Bool, true, false, List, [], ◌∷◌, length, take, drop, map, get_or, Option, Some, None, Ok, refl, subst, arith}
use Rattle.std.proofs.lemmas.Bool.Decides.{nat_tests}
use Rattle.std.proofs.lemmas.Grind.{common_steps}
use Rattle.std.specs.Prelude.{◌&&◌, if◌then◌else◌, nat_lt, not}
use Rattle.std.specs.List.{range_with_len}
use Rattle.bti_nodes.specs.declared.table.Kind.{Kind}
use Rattle.bti_nodes.specs.declared.table.Shape.{Shape}
use Rattle.bti_nodes.specs.declared.table.Shape.TheVariants.{Leaf, Short, Single, Sparse, Dense}
use Rattle.bti_nodes.specs.declared.node.Child.{Child}
use Rattle.bti_nodes.specs.declared.node.NodeError.{NodeError}
use Rattle.bti_nodes.specs.Grammar.{Node, Climbs, AllBack, byte_at, node_kind_at, places_of, body_len, payload_len, letter_at, distance_at, child_at_distance, child_by, node_by, ascends, in_order, all_point_back, refusal, unless, node_at}
use Rattle.bti_nodes.proofs.Places.{all_back}

pub unless_ok : (r : Option NodeError) (n m : Node) → unless r n ≡ Ok m → (r ≡ None) × (n ≡ m)
unless_ok None n m h = (refl, cc)
unless_ok (Some e) n m h = cc

pub guard : (b : Bool) (e : NodeError) (rest : Option NodeError) → (if b then Some e else rest) ≡ None → (b ≡ false) × (rest ≡ None)
guard true e rest h = cc
guard false e rest h = (refl, h)

pub not_false : (b : Bool) → not b ≡ false → b ≡ true
not_false true h = refl
not_false false h = cc

stood : (kind : Kind) (places : ℕ) (bytes : List ℕ) (position : ℕ) → refusal kind places bytes position ≡ None
    → (body_len kind.shape kind.width places ≤ length bytes) × (in_order kind.shape places bytes ≡ true) × (all_point_back kind places bytes position ≡ true)
stood kind places bytes position h =
    let a = guard _ _ _ h in
    let b = guard _ _ _ a.1 in
    let c = guard _ _ _ b.1 in
    let long : nat_lt (length bytes) (body_len kind.shape kind.width places + payload_len kind.shape (byte_at bytes 0 % 16)) ≡ false = a.0 in
    (grind (arith, nat_tests), not_false _ b.0, not_false _ c.0)

lower : (l h : ℕ) (cs : List (Option Child)) → l ≤ h → Climbs h cs → Climbs l cs
lower l h [] e c = tt
lower l h (None ∷ cs) e c = lower l h cs e c
lower l h (Some x ∷ cs) e c = (omega (arith, c.0), c.1)

put : (letter d low : ℕ) (cs : List (Option Child)) → low ≤ letter → Climbs (letter + 1) cs → Climbs low (child_at_distance letter d ∷ cs)
put letter zero low cs e c = lower low (letter + 1) cs (omega arith) c
put letter (suc d) low cs e c = (e, c)

climb : (letter d : ℕ → ℕ) (low a n : ℕ) → (0 < n → low ≤ letter a) → ((i : ℕ) → a ≤ i → i + 1 < a + n → letter i < letter (i + 1)) → Climbs low (map (λ i. child_at_distance (letter i) (d i)) (range_with_len a n))
climb letter d low a zero first up = tt
climb letter d low a (suc n) first up =
    put (letter a) (d a) low _ (first (omega arith))
    (climb letter d (letter a + 1) (a + 1) n (λ s. let u = up a (omega arith) (omega arith) in omega (arith, u)) (λ i x y. up i (omega arith) (omega arith)))

both_true : (a b : Bool) → (a && b) ≡ true → (a ≡ true) × (b ≡ true)
both_true true b h = (refl, h)
both_true false b h = cc

pub goes_up : (xs : List ℕ) (i : ℕ) → ascends xs ≡ true → i + 1 < length xs → get_or xs i 0 < get_or xs (i + 1) 0
goes_up [] i h l = absurd (omega arith)
goes_up (a ∷ []) i h l = absurd (omega arith)
goes_up (a ∷ b ∷ rest) zero h l =
    let two = both_true (nat_lt a b) (ascends (b ∷ rest)) h in
    let less : nat_lt a b ≡ true = two.0 in
    let below : a < b = grind (arith, nat_tests) in below
goes_up (a ∷ b ∷ rest) (suc i) h l =
    let two = both_true (nat_lt a b) (ascends (b ∷ rest)) h in
    let e : suc i + 1 ≡ suc (i + 1) = omega arith in
    let more : get_or (b ∷ rest) i 0 < get_or (b ∷ rest) (i + 1) 0 = goes_up (b ∷ rest) i two.1 (omega arith) in
    rw e more

in_part : (bytes : List ℕ) (n i : ℕ) → 2 + n ≤ length bytes → i < n → get_or (take n (drop 2 bytes)) i 0 ≡ get_or bytes (2 + i) 0
in_part bytes n i h l = grind (arith, common_steps)

part_len : (bytes : List ℕ) (n : ℕ) → 2 + n ≤ length bytes → length (take n (drop 2 bytes)) ≡ n
part_len bytes n h = grind (arith, common_steps)

pub letters_up : (shape : Shape) (width n : ℕ) (bytes : List ℕ) → n ≡ places_of shape bytes → body_len shape width n ≤ length bytes → in_order shape n bytes ≡ true → (i : ℕ) → i + 1 < 0 + n → letter_at shape width bytes i < letter_at shape width bytes (i + 1)
unfolding letter_at in_order
letters_up Leaf width n bytes e h o i l = absurd (omega arith)
letters_up Short width n bytes e h o i l = absurd (omega arith)
letters_up Single width n bytes e h o i l = absurd (omega arith)
letters_up Sparse width n bytes e h o i l =
    let two = both_true (nat_lt 0 n) (ascends (take n (drop 2 bytes))) o in
    let room : 2 + n ≤ length bytes = omega arith in
    omega (arith, goes_up (take n (drop 2 bytes)) i two.1 (omega (arith, part_len bytes n room)), in_part bytes n i room (omega arith), in_part bytes n (i + 1) room (omega arith))
letters_up Dense width n bytes e h o i l = omega arith

pub climbs_by : (kind : Kind) (n : ℕ) (bytes : List ℕ) → n ≡ places_of kind.shape bytes → body_len kind.shape kind.width n ≤ length bytes → in_order kind.shape n bytes ≡ true → Climbs 0 (node_by kind n bytes).places
unfolding node_by child_by
climbs_by kind n bytes e h o =
    climb (letter_at kind.shape kind.width bytes) (distance_at kind.shape kind.width n bytes) 0 0 n (λ s. omega arith) (λ i x y. letters_up kind.shape kind.width n bytes e h o i y)

pub node_climbs : (bytes : List ℕ) (position : ℕ) (n : Node) → node_at bytes position ≡ Ok n → Climbs 0 n.places × AllBack position n.places
unfolding node_at
node_climbs bytes position n h =
    let kind = node_kind_at bytes in
    let places = places_of kind.shape bytes in
    let r = unless_ok _ _ n h in
    let s = stood kind places bytes position r.0 in
    subst (λ (m : Node). Climbs 0 m.places × AllBack position m.places) r.1 (climbs_by kind places bytes refl s.0 s.1, all_back kind places bytes position s.2)
