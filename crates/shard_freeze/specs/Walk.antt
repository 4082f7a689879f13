-- Where a walk over a trie stands, and what it has left to list. This project's own.
use Rattle.std.specs.Prelude.{◌≡◌, ◌≢◌, ◌⊎◌, ℕ, zero, suc, ◌+◌, ◌-◌, ◌*◌, ◌<◌, ◌≤◌, nat_lt, if◌then◌else◌, List, [], ◌∷◌, ◌++◌, length, take, Option, Some}
use Rattle.cell_layout.specs.declared.Kind.{Kind}
use Rattle.cell_layout.specs.declared.Kind.TheVariants.{Nothing, Content, Prefix}
use Rattle.cell_layout.specs.Pointers.{kind_at}
use Rattle.key_types.specs.Table.{Entry}
use Rattle.trie_image.specs.declared.Ledger.{Ledger}
use Rattle.trie_image.specs.Reading.{Reading}
use Rattle.trie_image.specs.Image.{reading}
use Rattle.trie_image.specs.Paths.{HasPath}
use Rattle.trie_image.specs.WellFormed.{IsWellFormed}
use Rattle.shard_freeze.specs.declared.walk.Level.{Level}
use Rattle.shard_freeze.specs.declared.walk.Walk.{Walk}
use Rattle.shard_freeze.specs.Listing.{prefixed, children_entries, entries_seen, entries_seen_from}

module _ (r : Reading) (value : ℕ → List ℕ) where
  -- the entries of the pointer that the walk is at, whose path is the walk's key
  abbrev pub here_left : List ℕ → ℕ → List Entry
  here_left key p = prefixed key (entries_seen_from r value (2048 - length key) p)

  -- those of the children that are left of a node on the way
  abbrev pub level_left : List ℕ → Level → List Entry
  level_left key l =
      prefixed (take l.depth key) (children_entries r value (entries_seen r value (2047 - l.depth)) l.node l.next (256 - l.next))

  -- those of all nodes on the way, the last one's first
  abbrev pub levels_left : List ℕ → List Level → List Entry
  levels_left key [] = []
  levels_left key (l ∷ ls) = levels_left key ls ++ level_left key l

  abbrev pub left_by_parts : List ℕ → List Level → Level → ℕ → List Entry
  left_by_parts key below top here = here_left key here ++ (level_left key top ++ levels_left key below)

module _ (g : Ledger) where
  -- a node on the way has the first bytes of the walk's key as its path
  pub record IsLevel (key : List ℕ) (l : Level) : Type 0 where
    pub depth : l.depth ≤ length key
    pub next : l.next ≤ 256
    pub path : l.next < 256 → HasPath g l.node (take l.depth key)
    pub kind : l.next < 256 → kind_at l.node ≢ Some Prefix

  -- the nodes on the way, each no deeper than the next, and the last no deeper than `high`
  abbrev pub IsStack : List ℕ → ℕ → ℕ → List Level → Type 0
  IsStack key low high [] = low ≤ high
  IsStack key low high (l ∷ ls) = (low ≤ l.depth) × IsLevel key l × IsStack key l.depth high ls

  pub record IsAt (key : List ℕ) (below : List Level) (top : Level) (here : ℕ) : Type 0 where
    pub top_is : IsLevel key top
    pub below_are : IsStack key 0 top.depth below
    pub here_is : here ≢ 0 → HasPath g here key

-- the walk stands in the trie of these words
abbrev pub StandsInTrie : List ℕ → Walk → Type 0
StandsInTrie w s = (g : Ledger) (cells : ℕ) → IsWellFormed w g cells → IsAt g s.key.items s.below.items s.top s.here

-- what a walk has left to list, by the values of records
abbrev pub left_of : List ℕ → (ℕ → List ℕ) → Walk → List Entry
left_of w value s = left_by_parts (reading w) value s.key.items s.below.items s.top s.here

-- two walks have the same left, whatever the values are
abbrev pub SameLeft : List ℕ → Walk → Walk → Type 0
SameLeft w s s' = (value : ℕ → List ℕ) → left_of w value s' ≡ left_of w value s

-- ---- a number that falls with each step of a walk

-- more than all steps under a pointer from which so many bytes go down
unfoldable pub steps_under : ℕ → ℕ
steps_under zero = 1
steps_under (suc n) = 1 + 257 * (1 + steps_under n)

abbrev pub level_size : Level → ℕ
level_size l = (257 - l.next) * (1 + steps_under (2048 - l.depth))

abbrev pub levels_size : List Level → ℕ
levels_size [] = 0
levels_size (l ∷ ls) = level_size l + levels_size ls

abbrev pub kind_size : ℕ → Option Kind → ℕ
kind_size n (Some Content) = 0
kind_size n (Some Nothing) = 0
kind_size n k = steps_under n

abbrev pub here_size : List ℕ → ℕ → ℕ
here_size key p = kind_size (2049 - length key) (kind_at p)

abbrev pub size_of : Walk → ℕ
size_of s = here_size s.key.items s.here + (level_size s.top + levels_size s.below.items)

-- the walk is at a record, or at its end
abbrev pub IsSettled : Walk → Type 0
IsSettled s = (kind_at s.here ≡ Some Content) ⊎ ((s.here ≡ 0) × (256 ≤ s.top.next) × (s.below.items ≡ []))

-- a node of which all children are left
abbrev pub whole_level : ℕ → ℕ → Level
whole_level node depth = record { node = node; next = 0; depth = depth }

-- the nodes on the way, without one of which nothing is left
abbrev pub kept_levels : List Level → Level → List Level
kept_levels below top = if nat_lt top.next 256 then below ++ top ∷ [] else below
