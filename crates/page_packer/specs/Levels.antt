-- The edge that a packer holds.
use Rattle.std.specs.Prelude.{◌≡◌, ℕ, ◌+◌, ◌<◌, ◌≤◌, ◌^◌, ◌==◌, if◌then◌else◌, List, [], ◌∷◌, ◌++◌, length, take, drop}
use Rattle.bti_nodes.specs.Spelling.{bytes_in}
use Rattle.page_packer.specs.declared.edge.Level.{Level}
use Rattle.page_packer.specs.declared.edge.Whole.{Whole}
use Rattle.page_packer.specs.Tree.{Tree, tree}
use Rattle.page_packer.specs.Last.{last_of}
use Rattle.page_packer.specs.Boxes.{branches_of}
use Rattle.page_packer.specs.declared.work.Stood.{Stood}
use Rattle.page_packer.specs.Layout.{Laid, closed_in_page}
use Rattle.page_packer.specs.Edge.{Edge, above, and_stood, under_of, Grown}

abbrev pub tree_in : Whole → Tree
tree_in w = tree (bytes_in w.payload) (branches_of w.children)

-- the levels, the first of which is the root, above an edge
abbrev pub edge_over : List Level → Edge → Edge
edge_over [] edge = edge
edge_over (l ∷ ls) edge = above (bytes_in l.payload) l.done.items l.byte (edge_over ls edge)

-- what closes levels above a subtree whose bytes begin at position p
abbrev pub closes_over : List Level → Laid → ℕ → Laid
closes_over [] laid p = laid
closes_over (l ∷ ls) laid p =
    let last = closes_over ls laid p in
    closed_in_page (bytes_in l.payload) (under_of last.bytes (and_stood l.done.items l.byte last.root)) (p + length last.bytes)

-- the bytes of the children ascend, the last above the others
abbrev pub Climb : ℕ → List Stood → ℕ → Type 0
Climb low [] b = (low ≤ b) × (b < 256)
Climb low (s ∷ done) b = (low ≤ s.byte) × Climb (s.byte + 1) done b

-- nodes that stand before a position, less than 2^39 bytes
abbrev pub AllNear : ℕ → List Stood → Type 0
AllNear p [] = Unit {0}
AllNear p (s ∷ done) = (s.position < p) × (p < s.position + 2 ^ 39) × AllNear p done

-- levels that can be closed behind position p
abbrev pub AreLevels : ℕ → List Level → Type 0
AreLevels p [] = Unit {0}
AreLevels p (l ∷ ls) = (length (bytes_in l.payload) ≤ 7) × Climb 0 l.done.items l.byte × AllNear p l.done.items × AreLevels p ls

abbrev pub laid_of : List ℕ → ℕ → Laid
laid_of bytes root = record { bytes = bytes; root = root }

-- how many levels a key follows
abbrev pub followed : List Level → List ℕ → ℕ
followed [] key = 0
followed (l ∷ ls) [] = 0
followed (l ∷ ls) (b ∷ rest) = if l.byte == b then 1 + followed ls rest else 0

-- the same below levels
abbrev pub over_grown : List Level → Grown → Grown
over_grown ls g = record { bytes = g.bytes; edge = edge_over ls g.edge }

-- the key along the levels and the last branches
abbrev pub last_over : List Level → Tree → List ℕ
last_over [] t = last_of t
last_over (l ∷ ls) t = l.byte ∷ last_over ls t

-- The last child of the level at a depth stands, and the levels below are gone: whatever comes under the new byte.
abbrev pub IsParted : List Level → List Level → ℕ → ℕ → ℕ → Type 0
IsParted old new d b r =
    (l : Level) (e : Edge) → old ≡ take d old ++ l ∷ drop (d + 1) old → edge_over new e ≡ edge_over (take d old) (above (bytes_in l.payload) (and_stood l.done.items l.byte r) b e)
