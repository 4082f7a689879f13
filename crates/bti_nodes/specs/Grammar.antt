-- What bytes are a node.
use Rattle.std.specs.Prelude.{◌≡◌, ◌<◌, ◌≤◌, ◌⊎◌, ℕ, zero, suc, ◌+◌, ◌-◌, ◌*◌, ◌/◌, ◌%◌, ◌^◌, ◌==◌, ◌&&◌, Bool, true, false, not, List, [], ◌∷◌, length, take, drop, map, get_or, Option, Some, None, Result, Ok, Err, if◌then◌else◌, nat_lt, nat_le, IsTrue}
use Rattle.std.specs.List.{range_with_len}
use Rattle.std.specs.Int.{div_ceil}
use Rattle.byteorder.specs.Endian.{big_number}
use Rattle.bti_nodes.specs.Table.{kinds}
use Rattle.bti_nodes.specs.declared.table.Kind.{Kind}
use Rattle.bti_nodes.specs.declared.table.Shape.{Shape}
use Rattle.bti_nodes.specs.declared.table.Shape.TheVariants.{Leaf, Short, Single, Sparse, Dense}
use Rattle.bti_nodes.specs.declared.node.Child.{Child}
use Rattle.bti_nodes.specs.declared.node.NodeError.{NodeError}
use Rattle.bti_nodes.specs.declared.node.NodeError.TheVariants.{PastPage, BadOrder, BadPointer, BadPayload}

-- A node: its payload, and at each place a child, or none at a free place of a dense node.
pub record Node : Type 0 where
  pub payload : List ℕ
  pub places : List (Option Child)

abbrev pub byte_at : List ℕ → ℕ → ℕ
byte_at bytes i = get_or bytes i 0

-- the number in the width bits from bit at on, the highest first
unfoldable pub bits_at : List ℕ → ℕ → ℕ → ℕ
bits_at bytes at width =
    let first = at / 8 in
    let end = div_ceil (at + width) 8 in
    big_number (end - first) (drop first bytes) / 2 ^ (8 * end - (at + width)) % 2 ^ width

abbrev pub node_kind_at : List ℕ → Kind
node_kind_at bytes = get_or kinds (byte_at bytes 0 / 16) (record { shape = Leaf; width = 0 })

-- the widths that the types of a shape have
abbrev pub IsWidth : Shape → ℕ → Type 0
IsWidth Leaf width = width ≡ 0
IsWidth Short width = (width ≡ 4) ⊎ (width ≡ 12)
IsWidth Single width = (width ≡ 8) ⊎ (width ≡ 16)
IsWidth Sparse width = (0 < width) × (width ≤ 40)
IsWidth Dense width = (0 < width) × ((width ≤ 40) ⊎ (width ≡ 64))

-- the widths that a row of bits has: twelve bits, or whole bytes up to eight
abbrev pub IsRowWidth : ℕ → Type 0
IsRowWidth width = (width ≡ 12) ⊎ ((width % 8 ≡ 0) × (8 ≤ width) × (width ≤ 64))

-- the distances of sparse and dense types are a row of bits
abbrev pub HasRow : Shape → ℕ → Type 0
HasRow Sparse width = IsRowWidth width
HasRow Dense width = IsRowWidth width
HasRow _ width = Unit {0}

-- how many places for children
abbrev pub places_of : Shape → List ℕ → ℕ
places_of Leaf bytes = 0
places_of Short bytes = 1
places_of Single bytes = 1
places_of Sparse bytes = byte_at bytes 1
places_of Dense bytes = byte_at bytes 2 + 1

-- how many bytes before the payload
abbrev pub body_len : Shape → ℕ → ℕ → ℕ
body_len Leaf width places = 1
body_len Short width places = (4 + width) / 8 + 1
body_len Single width places = 2 + width / 8
body_len Sparse width places = 2 + places + div_ceil (places * width) 8
body_len Dense width places = 3 + div_ceil (places * width) 8

-- how many bytes of payload, by the low four bits
abbrev pub payload_len : Shape → ℕ → ℕ
payload_len Short low = 0
payload_len _ low = if nat_lt low 8 then low else 0

-- the bit at which the distances begin
abbrev pub first_bit : Shape → ℕ → ℕ
first_bit Leaf places = 8
first_bit Short places = 4
first_bit Single places = 16
first_bit Sparse places = 16 + 8 * places
first_bit Dense places = 24

-- the transition byte at a place
unfoldable pub letter_at : Shape → ℕ → List ℕ → ℕ → ℕ
letter_at Leaf width bytes i = 0
letter_at Short width bytes i = byte_at bytes ((4 + width) / 8)
letter_at Single width bytes i = byte_at bytes 1
letter_at Sparse width bytes i = byte_at bytes (2 + i)
letter_at Dense width bytes i = byte_at bytes 1 + i

unfoldable pub distance_at : Shape → ℕ → ℕ → List ℕ → ℕ → ℕ
distance_at shape width places bytes i = bits_at bytes (first_bit shape places + i * width) width

-- a distance 0 is no child
abbrev pub child_at_distance : ℕ → ℕ → Option Child
child_at_distance letter zero = None
child_at_distance letter (suc d) = Some (record { byte = letter; distance = suc d })

unfoldable pub child_by : Kind → ℕ → List ℕ → ℕ → Option Child
child_by kind places bytes i = child_at_distance (letter_at kind.shape kind.width bytes i) (distance_at kind.shape kind.width places bytes i)

unfoldable pub node_by : Kind → ℕ → List ℕ → Node
node_by kind places bytes = record {
  payload = take (payload_len kind.shape (byte_at bytes 0 % 16)) (drop (body_len kind.shape kind.width places) bytes);
  places = map (child_by kind places bytes) (range_with_len 0 places);
}

-- strictly ascending
abbrev pub ascends : List ℕ → Bool
ascends [] = true
ascends (a ∷ []) = true
ascends (a ∷ b ∷ rest) = nat_lt a b && ascends (b ∷ rest)

unfoldable pub in_order : Shape → ℕ → List ℕ → Bool
in_order Sparse places bytes = nat_lt 0 places && ascends (take places (drop 2 bytes))
in_order Dense places bytes = nat_le (byte_at bytes 1 + places) 256
in_order _ places bytes = true

-- p of each number below n
abbrev pub each_below : ℕ → (ℕ → Bool) → Bool
each_below zero p = true
each_below (suc n) p = each_below n p && p n

-- whether a distance may stand at a place
abbrev pub points_back : Shape → ℕ → ℕ → ℕ → ℕ → Bool
points_back Dense places position i distance = if nat_lt 0 i && nat_lt (i + 1) places then nat_le distance position else nat_lt 0 distance && nat_le distance position
points_back _ places position i distance = nat_lt 0 distance && nat_le distance position

unfoldable pub all_point_back : Kind → ℕ → List ℕ → ℕ → Bool
all_point_back kind places bytes position =
    each_below places (λ i. points_back kind.shape places position i (distance_at kind.shape kind.width places bytes i))

abbrev pub payload_stands : Shape → ℕ → Bool
payload_stands Leaf low = nat_lt 0 low && nat_lt low 8
payload_stands Short low = true
payload_stands _ low = nat_lt low 8

-- the first reason why no node begins with the bytes
abbrev pub refusal : Kind → ℕ → List ℕ → ℕ → Option NodeError
refusal kind places bytes position =
    let low = byte_at bytes 0 % 16 in
    if nat_lt (length bytes) (body_len kind.shape kind.width places + payload_len kind.shape low) then Some PastPage
    else if not (in_order kind.shape places bytes) then Some BadOrder
    else if not (all_point_back kind places bytes position) then Some BadPointer
    else if not (payload_stands kind.shape low) then Some BadPayload
    else None

abbrev pub unless : {A : Type 0} → Option NodeError → A → Result A NodeError
unless None node = Ok node
unless (Some e) node = Err e

-- The node that begins with the bytes, at a position of the file; or the first reason why there is none.
unfoldable pub node_at : List ℕ → ℕ → Result Node NodeError
node_at bytes position =
    let kind = node_kind_at bytes in
    let places = places_of kind.shape bytes in
    unless (refusal kind places bytes position) (node_by kind places bytes)

-- what a view of a node keeps
pub record KeepsView (kind : Kind) (places : ℕ) (bytes : List ℕ) : Type 0 where
  pub width : IsWidth kind.shape kind.width
  pub places_are : places ≡ places_of kind.shape bytes
  pub few : places ≤ 256
  pub stands : body_len kind.shape kind.width places + payload_len kind.shape (byte_at bytes 0 % 16) ≤ length bytes
  pub order : IsTrue (in_order kind.shape places bytes)

abbrev pub is_under : ℕ → Option Child → Bool
is_under b None = false
is_under b (Some c) = c.byte == b

-- the child under a byte
abbrev pub child_under : ℕ → List (Option Child) → Option Child
child_under b [] = None
child_under b (c ∷ cs) = if is_under b c then c else child_under b cs

abbrev pub IsBack : ℕ → Option Child → Type 0
IsBack position None = Unit {0}
IsBack position (Some c) = (0 < c.distance) × (c.distance ≤ position)

-- each child stands in the file, before its parent at the position
abbrev pub AllBack : ℕ → List (Option Child) → Type 0
AllBack position [] = Unit {0}
AllBack position (c ∷ cs) = IsBack position c × AllBack position cs

-- the children's bytes ascend, from low on
abbrev pub Climbs : ℕ → List (Option Child) → Type 0
Climbs low [] = Unit {0}
Climbs low (None ∷ cs) = Climbs low cs
Climbs low (Some c ∷ cs) = (low ≤ c.byte) × Climbs (c.byte + 1) cs
