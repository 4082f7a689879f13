-- The children of a node, by their bytes.
use Rattle.std.specs.Prelude.{◌<◌, ℕ, Bool, true, List, [], ◌∷◌, length, Option, Some, None, if◌then◌else◌, nat_lt}
use Rattle.std.specs.List.{AllByRecursion}
use Rattle.bti_nodes.specs.declared.node.Child.{Child}

-- the child, or where there is none the other
abbrev pub child_or : Option Child → Option Child → Option Child
child_or None d = d
child_or (Some c) d = Some c

-- the child, where its byte passes the test
abbrev pub if_child : (ℕ → Bool) → Option Child → Option Child
if_child p None = None
if_child p (Some c) = if p c.byte then Some c else None

-- the first child whose byte passes the test
abbrev pub first_child : (ℕ → Bool) → List (Option Child) → Option Child
first_child p [] = None
first_child p (c ∷ cs) = child_or (if_child p c) (first_child p cs)

-- the last child whose byte passes the test
abbrev pub last_child : (ℕ → Bool) → List (Option Child) → Option Child
last_child p [] = None
last_child p (c ∷ cs) = child_or (last_child p cs) (if_child p c)

abbrev pub any : ℕ → Bool
any b = true

-- the child under the greatest byte that is less than b
abbrev pub child_below : ℕ → List (Option Child) → Option Child
child_below b places = last_child (λ a. nat_lt a b) places

-- the child under the least byte that is greater than b
abbrev pub child_above : ℕ → List (Option Child) → Option Child
child_above b places = first_child (λ a. nat_lt b a) places

-- the child under the least byte, and the one under the greatest
abbrev pub least_child : List (Option Child) → Option Child
least_child places = first_child any places

abbrev pub greatest_child : List (Option Child) → Option Child
greatest_child places = last_child any places

abbrev pub HasByte : Option Child → Type 0
HasByte None = Unit {0}
HasByte (Some c) = c.byte < 256

-- each child stands under a byte
abbrev pub HaveBytes : List (Option Child) → Type 0
HaveBytes places = AllByRecursion HasByte places

-- a node without places has a payload, and otherwise its first place has a child
abbrev pub HasPayloadOrChild : List ℕ → List (Option Child) → Type 0
HasPayloadOrChild payload [] = 0 < length payload
HasPayloadOrChild payload (None ∷ cs) = ⊥
HasPayloadOrChild payload (Some c ∷ cs) = Unit {0}
