-- Searches in a trie of a file: each asks for nodes from the root on, and answers a path, or none, or the first
-- position that it asks for and at which no node begins.
use Rattle.std.specs.Prelude.{ℕ, zero, suc, ◌-◌, Bool, true, false, List, [], ◌∷◌, Option, Some, None, Result, Ok, Err, if◌then◌else◌}
use Rattle.bti_nodes.specs.declared.node.Child.{Child}
use Rattle.bti_nodes.specs.Grammar.{Node, child_under}
use Rattle.bti_nodes.specs.Children.{child_below, child_above, least_child, greatest_child}
use Rattle.bti_nodes.specs.Trie.{Path, Wrong, longer, node_in}

abbrev pub Answer : Type 0
Answer = Result (Option Path) Wrong

-- an answer for a path that is one byte longer at its front
abbrev pub deeper : ℕ → Answer → Answer
deeper b (Err w) = Err w
deeper b (Ok None) = Ok None
deeper b (Ok (Some p)) = Ok (Some (longer b p))

-- what is found, and where nothing is found the next answer
abbrev pub or_next : Answer → Answer → Answer
or_next (Err w) next = Err w
or_next (Ok None) next = next
or_next (Ok (Some p)) next = Ok (Some p)

-- what is found at a node, if one begins there
abbrev pub asked : Result Node Wrong → (Node → Answer) → Answer
asked (Err w) go = Err w
asked (Ok n) go = go n

-- the search at a child, where there is one
abbrev pub in_child : Option Child → ℕ → (ℕ → Answer) → Answer → Answer
in_child None position go otherwise = otherwise
in_child (Some c) position go otherwise = deeper c.byte (go (position - c.distance))

-- the node's own path, where it has a payload
abbrev pub own_or : ℕ → List ℕ → Answer → Answer
own_or position [] otherwise = otherwise
own_or position (x ∷ xs) otherwise = Ok (Some (record { path = []; node = position; payload = x ∷ xs }))

-- The first path on the way along the key.
abbrev pub exact_from : List ℕ → ℕ → List ℕ → Answer
exact_from file position [] = asked (node_in file position) (λ n. own_or position n.payload (Ok None))
exact_from file position (b ∷ key) =
    asked (node_in file position) (λ n. own_or position n.payload
    (in_child (child_under b n.places) position (λ at. exact_from file at key) (Ok None)))

-- A node's first path is its own where it has a payload, and otherwise the first path of its least child.
abbrev pub first_by : ℕ → List ℕ → ℕ → Answer
first_by zero file position = Ok None
first_by (suc fuel) file position =
    asked (node_in file position) (λ n. own_or position n.payload
    (in_child (least_child n.places) position (first_by fuel file) (Ok None)))

-- Its last path is that of its greatest child, and its own where it has no child.
abbrev pub last_by : ℕ → List ℕ → ℕ → Answer
last_by zero file position = Ok None
last_by (suc fuel) file position =
    asked (node_in file position) (λ n. in_child (greatest_child n.places) position (last_by fuel file)
    (own_or position n.payload (Ok None)))

-- a child stands before its parent, so position and one nodes are enough to go down
unfoldable pub first_path : List ℕ → ℕ → Answer
first_path file position = first_by (suc position) file position

unfoldable pub last_path : List ℕ → ℕ → Answer
last_path file position = last_by (suc position) file position

-- The greatest path below the key, or the key itself where it counts.
abbrev pub below_from : Bool → List ℕ → ℕ → List ℕ → Answer
below_from itself file position [] =
    asked (node_in file position) (λ n. if itself then own_or position n.payload (Ok None) else Ok None)
below_from itself file position (b ∷ key) =
    asked (node_in file position) (λ n. or_next
    (in_child (child_under b n.places) position (λ at. below_from itself file at key) (Ok None))
    (in_child (child_below b n.places) position (last_path file) (own_or position n.payload (Ok None))))

-- The least path above the key, or the key itself where it counts.
abbrev pub above_from : Bool → List ℕ → ℕ → List ℕ → Answer
above_from itself file position [] =
    if itself then first_path file position
    else asked (node_in file position) (λ n. in_child (least_child n.places) position (first_path file) (Ok None))
above_from itself file position (b ∷ key) =
    asked (node_in file position) (λ n. or_next
    (in_child (child_under b n.places) position (λ at. above_from itself file at key) (Ok None))
    (in_child (child_above b n.places) position (first_path file) (Ok None)))

-- the five searches
unfoldable pub exact_in : List ℕ → ℕ → List ℕ → Answer
exact_in file root key = exact_from file root key

unfoldable pub floor_in : List ℕ → ℕ → List ℕ → Answer
floor_in file root key = below_from true file root key

unfoldable pub before_in : List ℕ → ℕ → List ℕ → Answer
before_in file root key = below_from false file root key

unfoldable pub ceiling_in : List ℕ → ℕ → List ℕ → Answer
ceiling_in file root key = above_from true file root key

unfoldable pub after_in : List ℕ → ℕ → List ℕ → Answer
after_in file root key = above_from false file root key
