-- The tree of an ascending list of keys with payloads (after BtiFormat.md).
use Rattle.std.specs.Prelude.{◌≡◌, ◌<◌, ◌≤◌, ℕ, ◌+◌, ◌==◌, List, [], ◌∷◌, ◌++◌, map, length, if◌then◌else◌}
use Rattle.std.specs.List.{AllByRecursion}
use Rattle.std.specs.declared.cmp.Ordering.TheVariants.{Less}
use Rattle.std.specs.Ordering.{nat_cmp}
use Rattle.std.specs.Cmp.Lexicographic.{slice_cmp}
use Rattle.bti_nodes.specs.declared.node.Child.{Child}
use Rattle.bti_nodes.specs.Spelling.{outline_by, outline_size, distant}

-- A node has a payload, which is empty where no key ends, and branches by ascending byte.
mutual
  pub data Tree : Type 0 where
    tree : List ℕ → Branches → Tree

  pub data Branches : Type 0 where
    end : Branches
    branch : ℕ → Tree → Branches → Branches

-- a key with its payload
pub record TrieEntry : Type 0 where
  pub key : List ℕ
  pub payload : List ℕ

-- the key comes before the other in the order of byte strings
abbrev pub IsBelow : List ℕ → List ℕ → Type 0
IsBelow a b = slice_cmp nat_cmp a b ≡ Less

-- what may be an entry: bytes, and a payload of one to seven bytes
pub record IsEntry (e : TrieEntry) : Type 0 where
  pub bytes : AllByRecursion (λ b. b < 256) e.key
  pub paid : 0 < length e.payload
  pub short : length e.payload ≤ 7

-- the keys ascend, from above a key on
abbrev pub AscendFrom : List ℕ → List TrieEntry → Type 0
AscendFrom last [] = Unit {0}
AscendFrom last (e ∷ es) = IsBelow last e.key × IsEntry e × AscendFrom e.key es

-- a list of entries whose keys ascend; none of them is empty
abbrev pub AreEntries : List TrieEntry → Type 0
AreEntries es = AscendFrom [] es

-- the last key, empty where there is none
abbrev pub key_after : List ℕ → List TrieEntry → List ℕ
key_after last [] = last
key_after last (e ∷ es) = key_after e.key es

abbrev pub last_key : List TrieEntry → List ℕ
last_key es = key_after [] es

-- how many bytes the keys have together
abbrev pub key_bytes : List TrieEntry → ℕ
key_bytes [] = 0
key_bytes (e ∷ es) = length e.key + key_bytes es

-- one key alone
abbrev pub path : List ℕ → List ℕ → Tree
path [] p = tree p end
path (b ∷ bs) p = tree [] (branch b (path bs p) end)

-- The tree with one key more, which is above those that are there: its bytes are those of the last branches as far as
-- they go, and then it is a path behind them.
abbrev mutual
  pub with_key : Tree → List ℕ → List ℕ → Tree
  with_key (tree q bs) [] p = tree p bs
  with_key (tree q bs) (b ∷ rest) p = tree q (with_branch bs b rest p)

  pub with_branch : Branches → ℕ → List ℕ → List ℕ → Branches
  with_branch end b rest p = branch b (path rest p) end
  with_branch (branch c t end) b rest p = if c == b then branch c (with_key t rest p) end else branch c t (branch b (path rest p) end)
  with_branch (branch c t (branch d u bs)) b rest p = branch c t (with_branch (branch d u bs) b rest p)

abbrev pub grown : Tree → List TrieEntry → Tree
grown t [] = t
grown t (e ∷ es) = grown (with_key t e.key e.payload) es

abbrev pub tree_of : List TrieEntry → Tree
tree_of es = grown (tree [] end) es

-- the entries of a tree, by ascending key
abbrev pub below : ℕ → TrieEntry → TrieEntry
below b e = record { key = b ∷ e.key; payload = e.payload }

abbrev pub own : List ℕ → List TrieEntry
own [] = []
own (x ∷ xs) = record { key = []; payload = x ∷ xs } ∷ []

abbrev mutual
  pub entries_of : Tree → List TrieEntry
  entries_of (tree q bs) = own q ++ entries_under bs

  pub entries_under : Branches → List TrieEntry
  entries_under end = []
  entries_under (branch b t bs) = map (below b) (entries_of t) ++ entries_under bs

-- the tree of ascending keys has exactly these entries, in their order
abbrev pub TreeIsEntries : Type 0
TreeIsEntries = (es : List TrieEntry) → AreEntries es → entries_of (tree_of es) ≡ es

abbrev pub letters : Branches → List ℕ
letters end = []
letters (branch b t bs) = b ∷ letters bs

-- a child under a byte, wherever it stands
abbrev pub unplaced : ℕ → Child
unplaced b = record { byte = b; distance = 0 }

-- the weight of a node alone, and of a subtree: the sum of its nodes' weights
abbrev pub weight_here : List ℕ → Branches → ℕ
weight_here p bs = outline_size (distant (outline_by (length p) (map unplaced (letters bs))))

abbrev mutual
  pub weight : Tree → ℕ
  weight (tree p bs) = weights bs + weight_here p bs

  pub weights : Branches → ℕ
  weights end = 0
  weights (branch b t bs) = weight t + weights bs
