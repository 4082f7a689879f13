-- Ways down a trie, which a walk holds.
use Rattle.std.specs.Prelude.{◌≡◌, ◌<◌, ℕ, ◌+◌, ◌-◌, List, length, get_or, Option, Some, None, Result, Ok, IfOk, IfSome}
use Rattle.outside.specs.declared.store.FileId.{FileId}
use Rattle.outside.specs.Files.{Files, bytes_of}
use Rattle.bti_nodes.specs.declared.node.Child.{Child}
use Rattle.bti_nodes.specs.Grammar.{Node, child_under}
use Rattle.bti_nodes.specs.Trie.{node_in}
use Rattle.data_file.specs.declared.reading.DataError.{DataError}
use Rattle.bti_reader.specs.declared.way.PathHit.{PathHit}
use Rattle.bti_reader.specs.declared.way.Start.{Start}
use Rattle.bti_reader.specs.declared.way.Way.{Way}

-- a node begins at the first position, and its child under that byte stands at the other
pub record IsChild (file : List ℕ) (at b to : ℕ) : Type 0 where
  pub node : Node
  pub child : Child
  pub begins : node_in file at ≡ Ok node
  pub stands : child_under b node.places ≡ Some child
  pub there : to ≡ at - child.distance

-- each node of a way but the first is the child of the one before it, under the next byte of the path
abbrev pub IsWay : List ℕ → List ℕ → List ℕ → Type 0
IsWay file path nodes =
    (i : ℕ) → i < length path → IsChild file (get_or nodes i 0) (get_or path i 0) (get_or nodes (i + 1) 0)

-- a walk: the trie's file and root, and the way down to the last path that was given
pub record Progress : Type 0 where
  pub file : FileId
  pub root : ℕ
  pub way : Option Way

-- the walk's way, where there is one, is one in the file, from the root on
abbrev pub IsWayOf : List ℕ → ℕ → Option Way → Type 0
IsWayOf file root None = Unit {0}
IsWayOf file root (Some way) = (get_or way.nodes 0 0 ≡ root) × IsWay file way.path way.nodes

-- what a walk holds is that of its file as it stands, where the store tells it
abbrev pub Stands : Option Files → Progress → Type 0
Stands files walk = IfSome files (λ m. IsWayOf (bytes_of m walk.file) walk.root walk.way)

-- the nodes are a way to the path, where the store tells the file
abbrev pub IsWayIn : Option Files → FileId → List ℕ → List ℕ → Type 0
IsWayIn files file path nodes = IfSome files (λ m. IsWay (bytes_of m file) path nodes)

-- the nodes are a way to the path that was found
abbrev pub LeadsToHit : Option Files → FileId → List ℕ → Result (Option PathHit) DataError → Type 0
LeadsToHit files file nodes result = IfOk result (λ hit. IfSome hit (λ h. IsWayIn files file h.path nodes))

-- where the next paths begin is a child of one of the nodes, under the start's byte
abbrev pub StartIsBelow : List ℕ → List ℕ → Start → Type 0
StartIsBelow file nodes s = IsChild file (get_or nodes s.passed 0) s.byte s.start

abbrev pub StartsBelow : Option Files → FileId → List ℕ → Result (Option Start) DataError → Type 0
StartsBelow files file nodes result =
    IfSome files (λ m. IfOk result (λ s. IfSome s (StartIsBelow (bytes_of m file) nodes)))
