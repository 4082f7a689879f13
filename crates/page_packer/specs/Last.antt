-- The last key of a tree.
use Rattle.std.specs.Prelude.{ℕ, List, [], ◌∷◌}
use Rattle.page_packer.specs.Tree.{Tree, Branches, tree, end, branch}

-- the key along the last branches
abbrev mutual
  pub last_of : Tree → List ℕ
  last_of (tree q bs) = last_under bs

  pub last_under : Branches → List ℕ
  last_under end = []
  last_under (branch b t end) = b ∷ last_of t
  last_under (branch b t (branch c u bs)) = last_under (branch c u bs)
