-- Laws of the spelling.
use Rattle.std.specs.Prelude.{◌≡◌, ◌≤◌, ◌<◌, ℕ, ◌+◌, ◌*◌, ◌^◌, ◌++◌, true, List, [], ◌∷◌, length, map, Option, None, Some}
use Rattle.std.specs.List.{AllByRecursion}
use Rattle.std.specs.Result.{IsOkAnd}
use Rattle.bti_nodes.specs.declared.node.Child.{Child}
use Rattle.bti_nodes.specs.declared.outline.Outline.{Outline}
use Rattle.bti_nodes.specs.Grammar.{node_at}
use Rattle.bti_nodes.specs.Spelling.{Parts, IsNode, chosen, node_size, node_weight, node_bytes, greatest, holds, last_letter, size_by, kind_of_number, outline_of, distance_of}

-- of two types that hold the node, the first is smaller, or of the same size and of no greater number
abbrev pub IsNoWorse : Outline → ℕ → ℕ → Type 0
IsNoWorse o n m = (size_by n o ≤ size_by m o) × (size_by m o ≤ size_by n o → n ≤ m)

-- one of the types 1 to 14 that holds the node, of least size, and of several the one with the least number
pub record IsChoice (o : Outline) (n : ℕ) : Type 0 where
  pub written : (1 ≤ n) × (n ≤ 14)
  pub held : holds (kind_of_number n) o ≡ true
  pub least : (m : ℕ) → 1 ≤ m → m ≤ 14 → holds (kind_of_number m) o ≡ true → IsNoWorse o n m

-- a node with children is written in the type of least size that holds it, and of several in that of the least number
abbrev pub LeastIsChosen : Type 0
LeastIsChosen = (p : Parts) → 0 < length p.children → greatest p.children < 2 ^ 40 → IsChoice (outline_of p) (chosen (outline_of p))

-- a node has as many bytes as its size says
abbrev pub SizeIsLength : Type 0
SizeIsLength = (p : Parts) → length (node_bytes p) ≡ node_size p

-- a node whose distances are at most 4,095 is no longer than its weight
abbrev pub WeightBounds : Type 0
WeightBounds = (p : Parts) → greatest p.children ≤ 4095 → node_size p ≤ node_weight p

-- a node has some bytes, and where its bytes and payload are few, it fits a page
abbrev pub SizeBounds : Type 0
SizeBounds = (p : Parts) → (1 ≤ node_size p) × (length p.payload ≤ 7 → length p.children ≤ 256 → last_letter p.children < 256 → node_size p ≤ 4096)

-- a node of c children has at most 9 + 6 * c bytes
abbrev pub SizeByChildren : Type 0
SizeByChildren = (p : Parts) → length p.payload ≤ 7 → length p.children ≤ 256 → last_letter p.children < 256 → greatest p.children < 2 ^ 40 → node_size p ≤ 9 + 6 * length p.children

-- the children that stand at the places, in order
abbrev pub standing : List (Option Child) → List Child
standing [] = []
standing (None ∷ places) = standing places
standing (Some c ∷ places) = c ∷ standing places

-- What is written is parsed to the same node, at every position that is below none of its distances, whatever follows it.
abbrev pub WrittenIsRead : Type 0
WrittenIsRead =
    (p : Parts) (rest : List ℕ) (position : ℕ) → IsNode p → last_letter p.children < 256
    → AllByRecursion (λ d. d ≤ position) (map distance_of p.children)
    → IsOkAnd (node_at (node_bytes p ++ rest) position) (λ n. (n.payload ≡ p.payload) × (standing n.places ≡ p.children))
