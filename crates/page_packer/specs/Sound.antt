-- Trees that can be laid.
use Rattle.std.specs.Prelude.{◌≤◌, ◌<◌, ℕ, ◌+◌, length}
use Rattle.page_packer.specs.Tree.{Tree, Branches, tree, end, branch, letters}

-- the bytes of the branches ascend, from low on
abbrev pub Ascend : ℕ → Branches → Type 0
Ascend low end = Unit {0}
Ascend low (branch b t bs) = (low ≤ b) × (b < 256) × Ascend (b + 1) bs

-- the node has a payload or a branch
abbrev pub IsFull : Tree → Type 0
IsFull (tree q bs) = 0 < length q + length (letters bs)

-- a tree of bytes, with payloads of at most seven bytes, each node below the root with a payload or a branch
abbrev mutual
  pub Sound : Tree → Type 0
  Sound (tree q bs) = (length q ≤ 7) × Ascend 0 bs × SoundUnder bs

  pub SoundUnder : Branches → Type 0
  SoundUnder end = Unit {0}
  SoundUnder (branch b t bs) = Sound t × IsFull t × SoundUnder bs

-- how many nodes
abbrev mutual
  pub count : Tree → ℕ
  count (tree q bs) = counts bs + 1

  pub counts : Branches → ℕ
  counts end = 0
  counts (branch b t bs) = count t + counts bs
