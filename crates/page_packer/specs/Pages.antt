-- The page laws: where the nodes and the subtrees of a layout stand.
use Rattle.std.specs.Prelude.{◌≡◌, ◌≤◌, ℕ, ◌+◌, ◌%◌, List, [], ◌∷◌, ◌++◌, length, if◌then◌else◌}
use Rattle.std.specs.List.{AllByRecursion}
use Rattle.page_packer.specs.Tree.{Tree, Branches, tree, end, branch, weight, TrieEntry, AreEntries, tree_of}
use Rattle.page_packer.specs.Layout.{lay, lay_under, packed, packed_under, light, gap, node_at_place}

-- some bytes, and the position at which they stand
pub record Span : Type 0 where
  pub start : ℕ
  pub bytes : List ℕ

-- they lie in one page
abbrev pub InPage : Span → Type 0
InPage s = s.start % 4096 + length s.bytes ≤ 4096

abbrev pub span : ℕ → List ℕ → Span
span start bytes = record { start = start; bytes = bytes }

-- the nodes of a packed tree
abbrev mutual
  pub packed_nodes : Tree → ℕ → List Span
  packed_nodes (tree q bs) p =
      let under = packed_under bs p in
      let at = p + length under.bytes in
      packed_nodes_under bs p ++ span at (node_at_place q under.children at) ∷ []

  pub packed_nodes_under : Branches → ℕ → List Span
  packed_nodes_under end p = []
  packed_nodes_under (branch b t bs) p = packed_nodes t p ++ packed_nodes_under bs (p + length (packed t p).bytes)

-- the subtrees of a packed tree
abbrev mutual
  pub packed_subtrees : Tree → ℕ → List Span
  packed_subtrees (tree q bs) p = packed_subtrees_under bs p ++ span p (packed (tree q bs) p).bytes ∷ []

  pub packed_subtrees_under : Branches → ℕ → List Span
  packed_subtrees_under end p = []
  packed_subtrees_under (branch b t bs) p = packed_subtrees t p ++ packed_subtrees_under bs (p + length (packed t p).bytes)

-- the nodes of a laid tree
abbrev mutual
  pub laid_nodes : Tree → ℕ → List Span
  laid_nodes (tree q bs) p =
      if light (tree q bs) then packed_nodes (tree q bs) (p + gap p (weight (tree q bs)))
      else (let under = lay_under bs p in
      let at = p + length under.bytes in
      let room = gap at (length (node_at_place q under.children at)) in
      laid_nodes_under bs p ++ span (at + room) (node_at_place q under.children (at + room)) ∷ [])

  pub laid_nodes_under : Branches → ℕ → List Span
  laid_nodes_under end p = []
  laid_nodes_under (branch b t bs) p = laid_nodes t p ++ laid_nodes_under bs (p + length (lay t p).bytes)

-- the subtrees of weight at most 4,096 of a laid tree
abbrev mutual
  pub light_subtrees : Tree → ℕ → List Span
  light_subtrees (tree q bs) p =
      if light (tree q bs) then packed_subtrees (tree q bs) (p + gap p (weight (tree q bs))) else light_subtrees_under bs p

  pub light_subtrees_under : Branches → ℕ → List Span
  light_subtrees_under end p = []
  light_subtrees_under (branch b t bs) p = light_subtrees t p ++ light_subtrees_under bs (p + length (lay t p).bytes)

-- each subtree of weight at most 4,096 lies in one page
abbrev pub SubtreesInPages : Type 0
SubtreesInPages = (t : Tree) (p : ℕ) → AllByRecursion InPage (light_subtrees t p)

-- no node crosses a page
abbrev pub NodesInPages : Type 0
NodesInPages = (es : List TrieEntry) (p : ℕ) → AreEntries es → AllByRecursion InPage (laid_nodes (tree_of es) p)

-- a file has the bytes at their position
abbrev pub StandsIn : List ℕ → Span → Type 0
StandsIn file s = (front rest : List ℕ) × (file ≡ front ++ (s.bytes ++ rest)) × (length front ≡ s.start)

-- Wherever a layout stands in a file at its start, the file has each node and each light subtree at its span.
pub record SpansIn (es : List TrieEntry) (front rest : List ℕ) : Type 0 where
  pub nodes : AllByRecursion (StandsIn (front ++ ((lay (tree_of es) (length front)).bytes ++ rest))) (laid_nodes (tree_of es) (length front))
  pub subtrees : AllByRecursion (StandsIn (front ++ ((lay (tree_of es) (length front)).bytes ++ rest))) (light_subtrees (tree_of es) (length front))

abbrev pub SpansStand : Type 0
SpansStand = (es : List TrieEntry) (front rest : List ℕ) → SpansIn es front rest
