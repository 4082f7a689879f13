-- The entries that a pointer of a trie sees, in the order of their keys: its own, then those of its children by
-- ascending bytes. This project's own.
use Rattle.std.specs.Prelude.{◌≡◌, ℕ, zero, suc, ◌+◌, ◌==◌, if◌then◌else◌, List, [], ◌∷◌, ◌++◌, map, Option, Some, None}
use Rattle.key_types.specs.Table.{Entry}
use Rattle.trie_image.specs.declared.Put.{Put}
use Rattle.trie_image.specs.declared.Ledger.{Ledger}
use Rattle.trie_image.specs.Reading.{Reading}
use Rattle.trie_image.specs.Image.{reading, root_of}
use Rattle.trie_image.specs.WellFormed.{IsWellFormed}
use Rattle.shard_freeze.specs.Sorted.{entries_made}

-- the value of the put whose record begins with this cell
abbrev pub record_value : List Put → ℕ → List ℕ
record_value [] cell = []
record_value (p ∷ ps) cell = if p.cell == cell then p.value else record_value ps cell

-- the same entries with bytes before each key
abbrev pub prefixed : List ℕ → List Entry → List Entry
prefixed q es = map (λ e. (q ++ e.0, e.1)) es

module _ (r : Reading) (value : ℕ → List ℕ) where
  -- the entry of a pointer's own record, whose key has no byte left
  abbrev pub own_entry : Option ℕ → List Entry
  own_entry None = []
  own_entry (Some cell) = ([], value cell) ∷ []

  -- the entries entries_below a child, where there is one
  abbrev pub under_child : (ℕ → List Entry) → ℕ → ℕ → List Entry
  under_child f b c = if c == 0 then [] else prefixed (b ∷ []) (f c)

  -- those entries_below the children of n bytes from `low` on
  unfoldable pub children_entries : (ℕ → List Entry) → ℕ → ℕ → ℕ → List Entry
  children_entries f p low zero = []
  children_entries f p low (suc n) = under_child f low (r.child p low) ++ children_entries f p (low + 1) n

  -- all entries that a pointer other than 0 sees, whose keys have at most n bytes left
  unfoldable pub entries_seen : ℕ → ℕ → List Entry
  entries_seen zero p = own_entry (r.record_at p)
  entries_seen (suc n) p = own_entry (r.record_at p) ++ children_entries (entries_seen n) p 0 256

  -- the same where the pointer may be 0
  abbrev pub entries_seen_from : ℕ → ℕ → List Entry
  entries_seen_from n p = if p == 0 then [] else entries_seen n p

-- the entries that the root of a well-formed image sees are those of the sorted map of its puts
abbrev pub LawLists : Type 0
LawLists = (w : List ℕ) (g : Ledger) (cells : ℕ) → IsWellFormed w g cells
    → entries_seen_from (reading w) (record_value g.puts) 2048 (root_of w) ≡ entries_made g.puts
