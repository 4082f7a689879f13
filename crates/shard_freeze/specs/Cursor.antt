-- What contracts see of a cursor, and what its steps give. This project's own.
use Rattle.std.specs.Prelude.{◌≡◌, ◌≢◌, ℕ, ◌-◌, Bool, true, false, List, [], ◌∷◌, ◌++◌, length, slice_get, Option, Some, None}
use Rattle.cell_layout.specs.declared.Kind.TheVariants.{Prefix}
use Rattle.cell_layout.specs.Pointers.{kind_at}
use Rattle.key_types.specs.Table.{Entry}
use Rattle.trie_image.specs.declared.Put.{Put}
use Rattle.trie_image.specs.declared.Ledger.{Ledger}
use Rattle.trie_image.specs.Image.{reading}
use Rattle.trie_image.specs.Paths.{HasPath}
use Rattle.trie_image.specs.WellFormed.{IsWellFormed}
use Rattle.trie_rule.specs.Seats.{KeptWords}
use Rattle.shard_freeze.specs.declared.walk.Walk.{Walk}
use Rattle.shard_freeze.specs.declared.cursor.Entry.{Entry as CursorEntry}
use Rattle.shard_freeze.specs.Sorted.{entries_from}
use Rattle.shard_freeze.specs.Listing.{record_value, prefixed, children_entries, entries_seen, entries_seen_from}
use Rattle.shard_freeze.specs.Walk.{level_left, levels_left, left_of}

-- a cursor: the shard that it was made by, and the entries that are left, in their order
pub record CursorAt : Type 0 where
  pub frozen : KeptWords
  pub left : List Entry

-- the first entry that is left was given, or there was none
abbrev pub GivesEntry : List Entry → Option Entry → List Entry → Type 0
GivesEntry left None left' = (left ≡ []) × (left' ≡ [])
GivesEntry left (Some e) left' = left ≡ e ∷ left'

-- the same with the parts of the entry in two buffers
abbrev pub GivesInto : List Entry → Bool → List ℕ → List ℕ → List Entry → Type 0
GivesInto left true key value left' = GivesEntry left (Some (key, value)) left'
GivesInto left false key value left' = GivesEntry left None left'

-- the cell is the first of a put's record, whatever the ledger is
abbrev pub BeginsRecord : List ℕ → ℕ → Type 0
BeginsRecord w cell = (g : Ledger) (cells : ℕ) → IsWellFormed w g cells
    → (n : ℕ) × (put : Put) × (slice_get g.puts n ≡ Some put) × (put.cell ≡ cell)

-- these bytes are the value of the put whose record begins with the cell
abbrev pub IsRecordValue : List ℕ → ℕ → List ℕ → Type 0
IsRecordValue w cell bytes = (g : Ledger) (cells : ℕ) → IsWellFormed w g cells
    → (n : ℕ) (put : Put) → slice_get g.puts n ≡ Some put → put.cell ≡ cell → bytes ≡ put.value

-- a given entry as its key and its value
abbrev pub entry_given : Option CursorEntry → Option Entry
entry_given None = None
entry_given (Some e) = Some (e.key, e.value)

-- what a walk over a shard has left
abbrev pub left_made : KeptWords → Walk → List Entry
left_made k s = left_of k.words (record_value k.made) s

-- what a walk has left, where of its pointer only the entries are whose keys, behind the walk's key, aren't below
-- `rest`
abbrev pub sought : List ℕ → (ℕ → List ℕ) → List ℕ → Walk → List Entry
sought w value rest s =
    prefixed s.key.items (entries_from rest (entries_seen_from (reading w) value (2048 - length s.key.items) s.here))
    ++ (level_left (reading w) value s.key.items s.top ++ levels_left (reading w) value s.key.items s.below.items)

-- the node has the walk's key as its path, is no prefix cell, and from a byte on it lists what the walk's pointer lists
pub record IsAbove (w : List ℕ) (g : Ledger) (key : List ℕ) (here node : ℕ) : Type 0 where
  pub path : HasPath g node key
  pub kind : kind_at node ≢ Some Prefix
  pub same : (value : ℕ → List ℕ) (b : ℕ) (rest : List ℕ)
      → entries_from (b ∷ rest) (entries_seen (reading w) value (2048 - length key) here)
      ≡ entries_from (b ∷ rest) (children_entries (reading w) value (entries_seen (reading w) value (2047 - length key)) node 0 256)

abbrev pub StandsAbove : List ℕ → Walk → ℕ → Type 0
StandsAbove w s node = (g : Ledger) (cells : ℕ) → IsWellFormed w g cells → IsAbove w g s.key.items s.here node

-- a byte of a string was taken: what was sought by it is sought by the rest
abbrev pub TakesByte : List ℕ → Walk → ℕ → Walk → Type 0
TakesByte w s byte s' = (value : ℕ → List ℕ) (rest : List ℕ) → sought w value (byte ∷ rest) s ≡ sought w value rest s'

-- the way to a string ended at its byte: what was sought is all that is left
abbrev pub PassesRest : List ℕ → Walk → ℕ → Walk → Type 0
PassesRest w s byte s' = (value : ℕ → List ℕ) (rest : List ℕ) → sought w value (byte ∷ rest) s ≡ left_of w value s'

-- the walk has left what the root lists from a string on
abbrev pub LeavesFrom : List ℕ → ℕ → List ℕ → Walk → Type 0
LeavesFrom w root from s = (value : ℕ → List ℕ)
    → left_of w value s ≡ entries_from from (entries_seen_from (reading w) value 2048 root)
