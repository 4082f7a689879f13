-- The one spelling of a node: which of the types it is written in, and its bytes (made after BtiFormat.md;
-- the choice among types and the packing of twelve bits are this project's own).
use Rattle.std.specs.Prelude.{ℕ, zero, suc, ◌+◌, ◌-◌, ◌*◌, ◌/◌, ◌%◌, ◌^◌, ◌<◌, ◌≤◌, ◌==◌, ◌&&◌, max, Bool, List, [], ◌∷◌, ◌++◌, length, take, map, get_or, if◌then◌else◌, nat_lt, nat_le}
use Rattle.std.specs.List.{flat_map, range_with_len, AllByRecursion}
use Rattle.byteorder.specs.Endian.{big_bytes}
use Rattle.bti_nodes.specs.Table.{kinds}
use Rattle.bti_nodes.specs.Grammar.{body_len}
use Rattle.bti_nodes.specs.declared.table.Kind.{Kind}
use Rattle.bti_nodes.specs.declared.table.Shape.{Shape}
use Rattle.bti_nodes.specs.declared.table.Shape.TheVariants.{Leaf, Short, Single, Sparse, Dense}
use Rattle.bti_nodes.specs.declared.node.Child.{Child}
use Rattle.bti_nodes.specs.declared.node.Payload.{Payload}
use Rattle.bti_nodes.specs.declared.node.NodeParts.{NodeParts}
use Rattle.bti_nodes.specs.declared.outline.Outline.{Outline}

-- What a node is made of: its payload, which is empty where there is none, and its children by ascending byte.
pub record Parts : Type 0 where
  pub payload : List ℕ
  pub children : List Child

-- the bytes of a payload
abbrev pub bytes_in : Payload → List ℕ
bytes_in p = take p.count p.bytes

abbrev pub parts_of : NodeParts → Parts
parts_of n = record { payload = bytes_in n.payload; children = n.children }

abbrev pub letter_of : Child → ℕ
letter_of c = c.byte

abbrev pub distance_of : Child → ℕ
distance_of c = c.distance

-- a distance that can be written: a child stands before its parent, less than 2 ^ 40 bytes
abbrev pub IsNear : Child → Type 0
IsNear c = (0 < c.distance) × (c.distance < 2 ^ 40)

-- the bytes of the children ascend, from low on
abbrev pub IsAscending : ℕ → List Child → Type 0
IsAscending low [] = Unit {0}
IsAscending low (c ∷ cs) = (low ≤ c.byte) × IsAscending (c.byte + 1) cs

-- Parts that can be written: at most seven bytes of payload, a payload or a child, ascending bytes and near children.
pub record IsNode (p : Parts) : Type 0 where
  pub short : length p.payload ≤ 7
  pub some : 0 < length p.payload + length p.children
  pub order : IsAscending 0 p.children
  pub near : AllByRecursion IsNear p.children

abbrev pub first_letter : List Child → ℕ
first_letter [] = 0
first_letter (c ∷ cs) = c.byte

abbrev pub last_letter : List Child → ℕ
last_letter [] = 0
last_letter (c ∷ []) = c.byte
last_letter (c ∷ d ∷ cs) = last_letter (d ∷ cs)

abbrev pub greatest : List Child → ℕ
greatest [] = 0
greatest (c ∷ cs) = max c.distance (greatest cs)

-- what the choice of a type looks at
abbrev pub outline_by : ℕ → List Child → Outline
outline_by n cs = record { payload = n; count = length cs; first = first_letter cs; last = last_letter cs; greatest = greatest cs }

abbrev pub outline_of : Parts → Outline
outline_of p = outline_by (length p.payload) p.children

-- how many places the children take: in a dense node one for each byte from the first to the last
abbrev pub places_for : Shape → Outline → ℕ
places_for Dense o = o.last - o.first + 1
places_for Leaf o = 0
places_for _ o = o.count

-- how many bytes the node has as that type
abbrev pub size_as : Kind → Outline → ℕ
size_as kind o = body_len kind.shape kind.width (places_for kind.shape o) + o.payload

-- which nodes a shape can hold
abbrev pub shape_holds : Shape → Outline → Bool
shape_holds Leaf o = o.count == 0
shape_holds Short o = (o.count == 1) && (o.payload == 0)
shape_holds Single o = o.count == 1
shape_holds Sparse o = nat_lt 0 o.count && nat_lt o.count 256
shape_holds Dense o = nat_lt 0 o.count

-- a type can hold a node whose distances fit its bits
abbrev pub holds : Kind → Outline → Bool
holds kind o = shape_holds kind.shape o && nat_lt o.greatest (2 ^ kind.width)

abbrev pub kind_of_number : ℕ → Kind
kind_of_number n = get_or kinds n (record { shape = Leaf; width = 0 })

abbrev pub size_by : ℕ → Outline → ℕ
size_by n o = size_as (kind_of_number n) o

-- the better of a type and a type of a greater number
abbrev pub better : ℕ → ℕ → Outline → ℕ
better n rest o = if holds (kind_of_number n) o && nat_le (size_by n o) (size_by rest o) then n else rest

-- of the types of n, n + 1 and so on, k of them, that hold the node the one of least size, of several the first; else the next one
unfoldable pub least_from : ℕ → ℕ → Outline → ℕ
least_from zero n o = n
least_from (suc k) n o = better n (least_from k (suc n) o) o

-- The number of the type in which a node is written: PAYLOAD_ONLY without children, else one of 1 to 14. LONG_DENSE is never written.
unfoldable pub chosen : Outline → ℕ
chosen o = if o.count == 0 then 0 else least_from 13 1 o

unfoldable pub outline_size : Outline → ℕ
outline_size o = size_by (chosen o) o

-- how many bytes a node has
abbrev pub node_size : Parts → ℕ
node_size p = outline_size (outline_of p)

-- the same node with each distance 4,095
abbrev pub distant : Outline → Outline
distant o = record o { greatest = if o.count == 0 then 0 else 4095 }

-- the size that the node would have if each distance were 4,095
abbrev pub node_weight : Parts → ℕ
node_weight p = outline_size (distant (outline_of p))

-- numbers of twelve bits, the highest bits first, two in three bytes; four zero bits fill the last byte
abbrev pub twelves : List ℕ → List ℕ
twelves [] = []
twelves (a ∷ []) = a / 16 ∷ a % 16 * 16 ∷ []
twelves (a ∷ b ∷ rest) = a / 16 ∷ (a % 16 * 16 + b / 256) ∷ b % 256 ∷ twelves rest

abbrev pub row_of_bits : ℕ → List ℕ → List ℕ
row_of_bits width ds = if width == 12 then twelves ds else flat_map (big_bytes (width / 8)) ds

-- the distance of the child under a byte, 0 where there is none
abbrev pub distance_under : List Child → ℕ → ℕ
distance_under [] b = 0
distance_under (c ∷ cs) b = if c.byte == b then c.distance else distance_under cs b

-- the distances of a dense node: that under each byte from the first to the last
abbrev pub dense_row : List Child → List ℕ
dense_row cs = map (distance_under cs) (range_with_len (first_letter cs) (last_letter cs - first_letter cs + 1))

-- What stands before n bytes of payload, in the type of that number, shape and width. Where the first byte
-- has no bits of the distance, it has the type and n.
abbrev pub body : ℕ → Shape → ℕ → ℕ → List Child → List ℕ
body number Leaf width n cs = (16 * number + n) ∷ []
body number Short width n cs = big_bytes ((4 + width) / 8) (number * 2 ^ width + greatest cs) ++ first_letter cs ∷ []
body number Single width n cs = (16 * number + n) ∷ first_letter cs ∷ big_bytes (width / 8) (greatest cs)
body number Sparse width n cs = (16 * number + n) ∷ length cs ∷ (map letter_of cs ++ row_of_bits width (map distance_of cs))
body number Dense width n cs = (16 * number + n) ∷ first_letter cs ∷ (last_letter cs - first_letter cs) ∷ row_of_bits width (dense_row cs)

-- the bytes of a node as the type of that number
abbrev pub spelled : ℕ → Parts → List ℕ
spelled n p = body n (kind_of_number n).shape (kind_of_number n).width (length p.payload) p.children ++ p.payload

-- The bytes of a node.
unfoldable pub node_bytes : Parts → List ℕ
node_bytes p = spelled (chosen (outline_of p)) p

abbrev pub zeros : ℕ → List ℕ
zeros zero = []
zeros (suc n) = 0 ∷ zeros n
