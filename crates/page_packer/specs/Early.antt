-- What a packer has appended while more keys may come.
use Rattle.std.specs.Prelude.{◌≡◌, ◌≤◌, ℕ, ◌+◌, List, [], ◌++◌, length, drop, if◌then◌else◌}
use Rattle.page_packer.specs.Tree.{Tree, Branches, tree, end, branch, weight, TrieEntry, AreEntries, tree_of, grown}
use Rattle.page_packer.specs.Layout.{LaidUnder, lay, lay_under, light}

-- Along the last branches, as far as the subtrees are heavy, all branches but the last are laid.
abbrev mutual
  pub early : Tree → ℕ → List ℕ
  early (tree q bs) p = if light (tree q bs) then [] else early_under bs p

  pub early_under : Branches → ℕ → List ℕ
  early_under end p = []
  early_under (branch b t end) p = early t p
  early_under (branch b t (branch c u bs)) p = let first = lay t p in first.bytes ++ early_under (branch c u bs) (p + length first.bytes)

abbrev pub early_of : List TrieEntry → ℕ → List ℕ
early_of es p = early (tree_of es) p

-- what is appended for more entries, behind what was appended for the first ones
abbrev pub early_more : List TrieEntry → List TrieEntry → ℕ → List ℕ
early_more es more p = drop (length (early_of es p)) (early_of (es ++ more) p)

abbrev pub IsBeginning : List ℕ → List ℕ → Type 0
IsBeginning front all = (rest : List ℕ) × (all ≡ front ++ rest)

-- What is appended early stands: it is a prefix of the layout of every longer list,
abbrev pub EarlyStands : Type 0
EarlyStands = (es more : List TrieEntry) (p : ℕ) → AreEntries (es ++ more) → IsBeginning (early_of es p) (lay (tree_of (es ++ more)) p).bytes

-- and of what is appended early for it, so that each key appends the rest of that.
abbrev pub EarlyGrows : Type 0
EarlyGrows = (es more : List TrieEntry) (p : ℕ) → AreEntries (es ++ more) → early_of (es ++ more) p ≡ early_of es p ++ early_more es more p

-- The weight of a subtree never falls. A subtree with payload q at its root is the tree of the rests of its keys.
abbrev pub WeightGrows : Type 0
WeightGrows = (q : List ℕ) (es more : List TrieEntry) → length q ≤ 7 → AreEntries (es ++ more) → weight (grown (tree q end) es) ≤ weight (grown (tree q end) (es ++ more))

-- branches with others behind them
abbrev pub and_then : Branches → Branches → Branches
and_then end cs = cs
and_then (branch b t bs) cs = branch b t (and_then bs cs)

abbrev pub laid_then : LaidUnder → LaidUnder → LaidUnder
laid_then a b = record { bytes = a.bytes ++ b.bytes; children = a.children ++ b.children }

-- branches are laid in two parts
abbrev pub LaidInParts : Type 0
LaidInParts = (bs cs : Branches) (p : ℕ) → lay_under (and_then bs cs) p ≡ laid_then (lay_under bs p) (lay_under cs (p + length (lay_under bs p).bytes))
