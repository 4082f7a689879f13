-- Where the bytes of a tree stand in a file, in pages of 4,096 bytes (this project's own).
use Rattle.std.specs.Prelude.{ℕ, ◌+◌, ◌-◌, ◌%◌, Bool, List, [], ◌∷◌, ◌++◌, map, length, if◌then◌else◌, nat_le, nat_lt}
use Rattle.bti_nodes.specs.declared.node.Child.{Child}
use Rattle.bti_nodes.specs.Spelling.{node_bytes, zeros}
use Rattle.page_packer.specs.declared.work.Stood.{Stood}
use Rattle.page_packer.specs.Tree.{Tree, Branches, tree, end, branch, weight}

-- the bytes that are appended, and the position of the root
pub record Laid : Type 0 where
  pub bytes : List ℕ
  pub root : ℕ

-- the same of all branches of a node, in order
pub record LaidUnder : Type 0 where
  pub bytes : List ℕ
  pub children : List Stood

-- the zeros up to the next page where n bytes at position p would cross into it
abbrev pub gap : ℕ → ℕ → ℕ
gap p n = if nat_lt 4096 (p % 4096 + n) then 4096 - p % 4096 else 0

abbrev pub seen_from : ℕ → Stood → Child
seen_from at s = record { byte = s.byte; distance = at - s.position }

-- a node at a position, whose children stand
abbrev pub node_at_place : List ℕ → List Stood → ℕ → List ℕ
node_at_place p children at = node_bytes (record { payload = p; children = map (seen_from at) children })

-- the node behind its children's bytes, which end at position at
abbrev pub closed : List ℕ → LaidUnder → ℕ → Laid
closed p under at =
    record { bytes = under.bytes ++ node_at_place p under.children at; root = at }

-- the same, but that the node goes into the next page where it would cross into it
abbrev pub closed_in_page : List ℕ → LaidUnder → ℕ → Laid
closed_in_page p under at =
    let room = gap at (length (node_at_place p under.children at)) in
    record { bytes = under.bytes ++ zeros room ++ node_at_place p under.children (at + room); root = at + room }

abbrev pub beside : ℕ → Laid → LaidUnder → LaidUnder
beside b first rest = record { bytes = first.bytes ++ rest.bytes; children = record { byte = b; position = first.root } ∷ rest.children }

-- the nodes of a tree one behind the other from position p on, each node after its children
abbrev mutual
  pub packed : Tree → ℕ → Laid
  packed (tree q bs) p = let under = packed_under bs p in closed q under (p + length under.bytes)

  pub packed_under : Branches → ℕ → LaidUnder
  packed_under end p = record { bytes = []; children = [] }
  packed_under (branch b t bs) p = let first = packed t p in beside b first (packed_under bs (p + length first.bytes))

abbrev pub shifted : ℕ → Laid → Laid
shifted room laid = record { bytes = zeros room ++ laid.bytes; root = laid.root }

abbrev pub light : Tree → Bool
light t = nat_le (weight t) 4096

-- the layout
abbrev mutual
  pub lay : Tree → ℕ → Laid
  lay (tree q bs) p =
      if light (tree q bs) then (let room = gap p (weight (tree q bs)) in shifted room (packed (tree q bs) (p + room)))
      else (let under = lay_under bs p in closed_in_page q under (p + length under.bytes))

  pub lay_under : Branches → ℕ → LaidUnder
  lay_under end p = record { bytes = []; children = [] }
  lay_under (branch b t bs) p = let first = lay t p in beside b first (lay_under bs (p + length first.bytes))
