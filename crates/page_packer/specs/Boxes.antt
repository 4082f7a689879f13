-- The tree that the boxes of an open packer hold.
use Rattle.std.specs.Prelude.{◌≡◌, ◌<◌, ◌≤◌, ℕ, ◌+◌, List, [], ◌∷◌, length, map, min}
use Rattle.bti_nodes.specs.Spelling.{bytes_in, outline_by}
use Rattle.page_packer.specs.Sound.{Ascend, SoundUnder}
use Rattle.page_packer.specs.declared.boxes.Weighed.{Weighed}
use Rattle.page_packer.specs.declared.boxes.Branch.{Branch}
use Rattle.page_packer.specs.declared.boxes.Link.{Link, End, Last'}
use Rattle.page_packer.specs.Tree.{Tree, Branches, tree, end, branch, with_branch, weights, weight_here, letters, unplaced}

-- the branches with one more behind them
abbrev pub and_last : Branches → ℕ → Tree → Branches
and_last end b t = branch b t end
and_last (branch c u bs) b t = branch c u (and_last bs b t)

-- the branches of boxes, the first of which is the last branch
abbrev pub branches_of : Link → Branches
branches_of End = end
branches_of (Last' p byte weight so_far payload children before) = and_last (branches_of before) byte (tree (bytes_in payload) (branches_of children))

-- the node in a box
abbrev pub node_in_box : Branch → Tree
node_in_box b = tree (bytes_in b.payload) (branches_of b.children)

-- the branches with one key more
abbrev pub with_path : Branches → List ℕ → List ℕ → Branches
with_path bs [] p = bs
with_path bs (b ∷ rest) p = with_branch bs b rest p

-- the last branch is under that byte
abbrev pub EndsUnder : Link → ℕ → Type 0
EndsUnder End b = ⊥
EndsUnder (Last' p byte weight so_far payload children before) b = byte ≡ b

-- a weight, cut at 4,097
abbrev pub capped : ℕ → ℕ
capped n = min n 4097

-- what a node's choice of type sees of branches, and their capped weight
abbrev pub Sees : Weighed → Branches → Type 0
Sees w bs = (w.weight ≡ capped (weights bs)) × (w.outline ≡ outline_by 0 (map unplaced (letters bs)))

-- each box has the capped weight of its subtree, and what is seen of the branches up to it
abbrev pub IsWeighed : Link → Type 0
IsWeighed End = Unit {0}
IsWeighed (Last' p byte weight so_far payload children before) =
    (weight ≡ capped (weights (branches_of children) + weight_here (bytes_in payload) (branches_of children)))
    × Sees so_far (and_last (branches_of before) byte (tree (bytes_in payload) (branches_of children))) × IsWeighed children × IsWeighed before

-- the same, but of the boxes along the last branches
abbrev pub IsKept : Link → Type 0
IsKept End = Unit {0}
IsKept (Last' p byte weight so_far payload children before) = IsKept children × IsWeighed before

-- the sum of the weights of the nodes in boxes
abbrev pub weight_in : Link → ℕ
weight_in End = 0
weight_in (Last' p byte weight so_far payload children before) = weight_in before + (weight_in children + weight_here (bytes_in payload) (branches_of children))

-- how many nodes there are in boxes
abbrev pub count_in : Link → ℕ
count_in End = 0
count_in (Last' p byte weight so_far payload children before) = count_in before + (count_in children + 1)

-- boxes that can be laid: in each a payload of at most seven bytes, ascending branches, and a payload or a branch
abbrev pub IsSoundLink : Link → Type 0
IsSoundLink End = Unit {0}
IsSoundLink (Last' p byte weight so_far payload children before) =
    (length (bytes_in payload) ≤ 7) × Ascend 0 (branches_of children) × SoundUnder (branches_of children) × (0 < length (bytes_in payload) + length (letters (branches_of children))) × IsSoundLink children × IsSoundLink before
