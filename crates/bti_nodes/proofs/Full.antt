-- A node that was read has a payload or a child at its first place, and its children stand under bytes.
use Rattle.std.proofs.Common.{◌≡◌, ℕ, zero, suc, ◌+◌, ◌/◌, ◌%◌, ◌<◌, ◌≤◌, Bool, true, false, List, ◌∷◌, length, take, drop, map, get_or, Option, None, Ok, refl, sym, subst, arith}
use Rattle.std.proofs.lemmas.Bool.Decides.{nat_tests}
use Rattle.std.proofs.lemmas.Grind.{common_steps}
use Rattle.std.specs.Prelude.{◌&&◌, nat_lt, nat_le}
use Rattle.std.specs.List.{range_with_len}
use Rattle.bti_nodes.specs.declared.table.Kind.{Kind}
use Rattle.bti_nodes.specs.declared.table.Shape.{Shape}
use Rattle.bti_nodes.specs.declared.table.Shape.TheVariants.{Leaf, Short, Single, Sparse, Dense}
use Rattle.bti_nodes.specs.declared.node.Child.{Child}
use Rattle.bti_nodes.specs.Grammar.{Node, byte_at, node_kind_at, places_of, body_len, payload_len, letter_at, distance_at, child_at_distance, child_by, node_by, in_order, points_back, payload_stands, all_point_back, refusal, node_at}
use Rattle.bti_nodes.specs.Children.{HasPayloadOrChild, HasByte, HaveBytes}
use Rattle.bti_nodes.proofs.Climbing.{unless_ok, guard, not_false}
use Rattle.bti_nodes.proofs.Places.{at_each}

record Stands (kind : Kind) (places : ℕ) (bytes : List ℕ) (position : ℕ) : Type 0 where
  pub long : body_len kind.shape kind.width places + payload_len kind.shape (byte_at bytes 0 % 16) ≤ length bytes
  pub order : in_order kind.shape places bytes ≡ true
  pub back : all_point_back kind places bytes position ≡ true
  pub paid : payload_stands kind.shape (byte_at bytes 0 % 16) ≡ true

stands : (kind : Kind) (places : ℕ) (bytes : List ℕ) (position : ℕ) → refusal kind places bytes position ≡ None → Stands kind places bytes position
stands kind places bytes position h =
    let a = guard _ _ _ h in
    let b = guard _ _ _ a.1 in
    let c = guard _ _ _ b.1 in
    let d = guard _ _ _ c.1 in
    let long : nat_lt (length bytes) (body_len kind.shape kind.width places + payload_len kind.shape (byte_at bytes 0 % 16)) ≡ false = a.0 in
    record { long = grind (arith, nat_tests); order = not_false _ b.0; back = not_false _ c.0; paid = not_false _ d.0 }

-- a place with a distance has a child
first_there : (letter d : ℕ) (payload : List ℕ) (cs : List (Option Child)) → 0 < d → HasPayloadOrChild payload (child_at_distance letter d ∷ cs)
first_there letter zero payload cs h = absurd (omega arith)
first_there letter (suc d) payload cs h = tt

both_true : (a b : Bool) → (a && b) ≡ true → (a ≡ true) × (b ≡ true)
both_true true b h = (refl, h)
both_true false b h = cc

far : (distance position : ℕ) → (nat_lt 0 distance && nat_le distance position) ≡ true → 0 < distance
far distance position h = let two = both_true (nat_lt 0 distance) (nat_le distance position) h in let less : nat_lt 0 distance ≡ true = two.0 in grind (arith, nat_tests)

some_distance : (shape : Shape) (places position distance : ℕ) → points_back shape places position 0 distance ≡ true → 0 < distance
some_distance Leaf places position distance h = far distance position h
some_distance Short places position distance h = far distance position h
some_distance Single places position distance h = far distance position h
some_distance Sparse places position distance h = far distance position h
some_distance Dense places position distance h = far distance position h

full_places : (kind : Kind) (places : ℕ) (bytes payload : List ℕ) (position : ℕ) → 0 < places → all_point_back kind places bytes position ≡ true → HasPayloadOrChild payload (map (child_by kind places bytes) (range_with_len 0 places))
unfolding all_point_back child_by
full_places kind zero bytes payload position some h = absurd (omega arith)
full_places kind (suc n) bytes payload position some h =
    first_there (letter_at kind.shape kind.width bytes 0) (distance_at kind.shape kind.width (suc n) bytes 0) payload _
    (some_distance kind.shape (suc n) position (distance_at kind.shape kind.width (suc n) bytes 0)
    (at_each (suc n) 0 (λ i. points_back kind.shape (suc n) position i (distance_at kind.shape kind.width (suc n) bytes i)) h (omega arith)))

leaf_payload : (low : ℕ) (bytes : List ℕ) → payload_stands Leaf low ≡ true → 1 + payload_len Leaf low ≤ length bytes → 0 < length (take (payload_len Leaf low) (drop 1 bytes))
leaf_payload low bytes h l =
    let two = both_true (nat_lt 0 low) (nat_lt low 8) h in
    let some : nat_lt 0 low ≡ true = two.0 in
    let few : nat_lt low 8 ≡ true = two.1 in
    grind (arith, nat_tests, common_steps)

full_by : (shape : Shape) (width places position : ℕ) (bytes : List ℕ) → places ≡ places_of shape bytes → Stands (record { shape = shape; width = width }) places bytes position
    → HasPayloadOrChild (take (payload_len shape (byte_at bytes 0 % 16)) (drop (body_len shape width places) bytes)) (map (child_by (record { shape = shape; width = width }) places bytes) (range_with_len 0 places))
unfolding in_order
full_by Leaf width places position bytes e s =
    subst (λ n. HasPayloadOrChild (take (payload_len Leaf (byte_at bytes 0 % 16)) (drop (body_len Leaf width n) bytes)) (map (child_by (record { shape = Leaf; width = width }) n bytes) (range_with_len 0 n))) (sym e)
    (leaf_payload (byte_at bytes 0 % 16) bytes s.paid s.long)
full_by Short width places position bytes e s = full_places (record { shape = Short; width = width }) places bytes (take (payload_len Short (byte_at bytes 0 % 16)) (drop (body_len Short width places) bytes)) position (omega arith) s.back
full_by Single width places position bytes e s = full_places (record { shape = Single; width = width }) places bytes (take (payload_len Single (byte_at bytes 0 % 16)) (drop (body_len Single width places) bytes)) position (omega arith) s.back
full_by Sparse width places position bytes e s =
    let two = both_true (nat_lt 0 places) _ s.order in
    let some : nat_lt 0 places ≡ true = two.0 in
    full_places (record { shape = Sparse; width = width }) places bytes (take (payload_len Sparse (byte_at bytes 0 % 16)) (drop (body_len Sparse width places) bytes)) position (grind (arith, nat_tests)) s.back
full_by Dense width places position bytes e s = full_places (record { shape = Dense; width = width }) places bytes (take (payload_len Dense (byte_at bytes 0 % 16)) (drop (body_len Dense width places) bytes)) position (omega arith) s.back

-- a node that is not refused has a payload or a child
pub full_node : (kind : Kind) (places : ℕ) (bytes : List ℕ) (position : ℕ) → places ≡ places_of kind.shape bytes → refusal kind places bytes position ≡ None → HasPayloadOrChild (node_by kind places bytes).payload (node_by kind places bytes).places
unfolding node_by
full_node kind places bytes position e h = full_by kind.shape kind.width places position bytes e (stands kind places bytes position h)

pub node_full : (bytes : List ℕ) (position : ℕ) (n : Node) → node_at bytes position ≡ Ok n → HasPayloadOrChild n.payload n.places
unfolding node_at
node_full bytes position n h =
    let kind = node_kind_at bytes in
    let places = places_of kind.shape bytes in
    let r = unless_ok _ _ n h in
    subst (λ (m : Node). HasPayloadOrChild m.payload m.places) r.1 (full_node kind places bytes position refl r.0)

small_letter : (shape : Shape) (width places : ℕ) (bytes : List ℕ) → ((i : ℕ) → get_or bytes i 0 < 256) → places ≡ places_of shape bytes → in_order shape places bytes ≡ true → (i : ℕ) → i < places → letter_at shape width bytes i < 256
unfolding letter_at in_order
small_letter Leaf width places bytes small e o i l = omega arith
small_letter Short width places bytes small e o i l = small ((4 + width) / 8)
small_letter Single width places bytes small e o i l = small 1
small_letter Sparse width places bytes small e o i l = small (2 + i)
small_letter Dense width places bytes small e o i l =
    let room : nat_le (byte_at bytes 1 + places) 256 ≡ true = o in
    let fits : byte_at bytes 1 + places ≤ 256 = grind (arith, nat_tests) in
    omega arith

has_byte : (letter d : ℕ) → letter < 256 → HasByte (child_at_distance letter d)
has_byte letter zero h = tt
has_byte letter (suc d) h = h

all_bytes : (f : ℕ → Option Child) (a n : ℕ) → ((i : ℕ) → a ≤ i → i < a + n → HasByte (f i)) → HaveBytes (map f (range_with_len a n))
all_bytes f a zero h = tt
all_bytes f a (suc n) h = (h a (omega arith) (omega arith), all_bytes f (a + 1) n (λ i l u. h i (omega arith) (omega arith)))

-- the children of a node that was read stand under bytes
pub small_node : (kind : Kind) (places : ℕ) (bytes : List ℕ) → ((i : ℕ) → get_or bytes i 0 < 256) → places ≡ places_of kind.shape bytes → in_order kind.shape places bytes ≡ true → HaveBytes (node_by kind places bytes).places
unfolding node_by child_by
small_node kind places bytes small e o =
    all_bytes (child_by kind places bytes) 0 places (λ i l m. has_byte (letter_at kind.shape kind.width bytes i) (distance_at kind.shape kind.width places bytes i) (small_letter kind.shape kind.width places bytes small e o i (omega arith)))
