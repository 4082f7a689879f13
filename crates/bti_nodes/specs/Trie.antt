-- What a trie in a file means: its paths.
use Rattle.std.specs.Prelude.{ℕ, zero, suc, ◌+◌, ◌-◌, ◌/◌, ◌%◌, List, [], ◌∷◌, ◌++◌, drop, map, Option, Some, None, Result, Ok, Err}
use Rattle.bti_nodes.specs.declared.node.Child.{Child}
use Rattle.bti_nodes.specs.declared.node.NodeError.{NodeError}
use Rattle.bti_nodes.specs.declared.damage.Cause.{Cause}
use Rattle.outside.specs.Pages.{page_of}
use Rattle.bti_nodes.specs.Causes.{cause_of}
use Rattle.bti_nodes.specs.Grammar.{Node, node_at}

-- a position at which no node begins, and why
pub record Wrong : Type 0 where
  pub position : ℕ
  pub cause : Cause

abbrev pub or_wrong : ℕ → Result Node NodeError → Result Node Wrong
or_wrong position (Ok n) = Ok n
or_wrong position (Err e) = Err (record { position = position; cause = cause_of e })

-- The node at a position of the file, within its page.
abbrev pub node_in : List ℕ → ℕ → Result Node Wrong
node_in file position = or_wrong position (node_at (drop (position % 4096) (page_of file (position / 4096))) position)

-- a path of the trie, where its node stands, and its payload
pub record Path : Type 0 where
  pub path : List ℕ
  pub node : ℕ
  pub payload : List ℕ

-- the paths of a trie in their order, or the first position at which no node begins
abbrev pub Paths : Type 0
Paths = Result (List Path) Wrong

-- a path one byte longer at its front
abbrev pub longer : ℕ → Path → Path
longer b p = record { path = b ∷ p.path; node = p.node; payload = p.payload }

abbrev pub under : ℕ → Paths → Paths
under b (Err w) = Err w
under b (Ok ps) = Ok (map (longer b) ps)

-- the first paths and then the others, or what is wrong first
abbrev pub both : Paths → Paths → Paths
both (Err w) rest = Err w
both (Ok ps) (Err w) = Err w
both (Ok ps) (Ok qs) = Ok (ps ++ qs)

-- the empty path, where the node has a payload
abbrev pub own : ℕ → List ℕ → List Path
own position [] = []
own position (x ∷ xs) = record { path = []; node = position; payload = x ∷ xs } ∷ []

-- the paths below the places, one place after the other, where those from a position on are known
abbrev pub of_places : (ℕ → Paths) → ℕ → List (Option Child) → Paths
of_places go position [] = Ok []
of_places go position (None ∷ cs) = of_places go position cs
of_places go position (Some c ∷ cs) = both (under c.byte (go (position - c.distance))) (of_places go position cs)

abbrev pub of_node : (ℕ → Paths) → ℕ → Result Node Wrong → Paths
of_node go position (Err w) = Err w
of_node go position (Ok n) = both (Ok (own position n.payload)) (of_places go position n.places)

-- A child stands before its parent, so position and one nodes are enough to go down.
abbrev pub paths_by : ℕ → List ℕ → ℕ → Paths
paths_by zero file position = Ok []
paths_by (suc fuel) file position = of_node (paths_by fuel file) position (node_in file position)

-- The paths of the trie whose root stands at that position, ascending; or the first position in their order at which
-- no node begins.
unfoldable pub paths : List ℕ → ℕ → Paths
paths file root = paths_by (root + 1) file root
