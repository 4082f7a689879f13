-- The places of a walk, what one load leads to, and what a place sees. This project's own; the walk is after Apache
-- Cassandra's InMemoryTrie.md.
use Rattle.std.specs.Prelude.{◌≡◌, ℕ, ◌+◌, ◌-◌, ◌*◌, ◌/◌, ◌%◌, ◌<◌, ◌≤◌, ◌==◌, nat_lt, nat_le, if◌then◌else◌, true, false, List, length, take, drop, slice_get, Option, Some, None}
use Rattle.cell_layout.specs.declared.Kind.{Kind}
use Rattle.cell_layout.specs.declared.Kind.TheVariants as kind
use Rattle.cell_layout.specs.Words.{half_of, byte_of, ItemsAreBytes}
use Rattle.cell_layout.specs.Pointers.{kind_at, record_cell}
use Rattle.cell_layout.specs.Slots.{slot_at}
use Rattle.trie_image.specs.declared.Role.{Role}
use Rattle.trie_image.specs.declared.Role.TheVariants.{Root, Chain, Order, Slot, Top, Mid, Leaf, Prefix, Head}
use Rattle.trie_image.specs.declared.Place.{Place}
use Rattle.trie_image.specs.declared.Advance.{Advance}
use Rattle.trie_image.specs.declared.Advance.TheVariants.{On, Found, Absent}
use Rattle.trie_image.specs.declared.Owner.TheVariants.{MidCell, LeafCell, TopCell}
use Rattle.trie_image.specs.declared.Ledger.{Ledger}
use Rattle.trie_image.specs.Reading.{sees, sees_from}
use Rattle.trie_image.specs.Image.{word_of, field, reading, root_of, leaf_child}
use Rattle.trie_image.specs.Paths.{owner, HasPath}

-- a place by its four parts
abbrev pub place_at : Role → ℕ → ℕ → ℕ → Place
place_at role ptr part taken = record { role = role; ptr = ptr; part = part; taken = taken }

-- the place of the root
abbrev pub start_place : Place
start_place = place_at Root 0 0 0

-- the word that a place loads
abbrev pub word_at : Role → ℕ → ℕ → ℕ
word_at Root ptr part = 1
word_at Chain ptr part = 4 * (ptr / 32) + ptr % 32 / 8
word_at Order ptr part = 4 * (ptr / 32) + 3
word_at Slot ptr part = 4 * (ptr / 32) + part / 2
word_at Top ptr part = 4 * (ptr / 32) + part / 64 / 2
word_at Mid ptr part = 4 * (ptr / 32) + part / 8 % 8 / 2
word_at Leaf ptr part = 4 * (ptr / 32) + part % 8 / 2
word_at Prefix ptr part = 4 * (ptr / 32) + 0
word_at Head ptr part = 4 * record_cell ptr + 0

abbrev pub next_word_of : Place → ℕ
next_word_of pl = word_at pl.role pl.ptr pl.part

-- a node's place, where a byte of the key is left
abbrev pub node_place : List ℕ → ℕ → ℕ → Option Kind → Option ℕ → Advance
node_place key p taken (Some kind.Chain) (Some b) = On (place_at Chain p 0 taken)
node_place key p taken (Some kind.Sparse) (Some b) = On (place_at Order p 0 taken)
node_place key p taken (Some kind.Wide) (Some b) = On (place_at Top p b taken)
node_place key p taken _ _ = Absent

-- a pointer that was loaded, after so many bytes of the key
abbrev pub follow_by : List ℕ → ℕ → ℕ → Option Kind → Advance
follow_by key p taken (Some kind.Content) = if taken == length key then On (place_at Head p 0 taken) else Absent
follow_by key p taken (Some kind.Prefix) = if nat_le taken (length key) then On (place_at Prefix p 0 taken) else Absent
follow_by key p taken k = node_place key p taken k (slice_get key taken)

abbrev pub follow : List ℕ → ℕ → ℕ → Advance
follow key p taken = follow_by key p taken (kind_at p)

-- a prefix cell's word: its content at the key's end, else its node
abbrev pub content_place : ℕ → ℕ → Option Kind → Advance
content_place p taken (Some kind.Content) = On (place_at Head p 0 taken)
content_place p taken _ = Absent

abbrev pub prefix_step : List ℕ → ℕ → ℕ → Advance
prefix_step key word taken = if taken == length key then content_place (half_of word false) taken (kind_at (half_of word false))
    else node_place key (half_of word true) taken (kind_at (half_of word true)) (slice_get key taken)

abbrev pub advance_in_slots : ℕ → ℕ → Option ℕ → Advance
advance_in_slots p taken None = Absent
advance_in_slots p taken (Some s) = On (place_at Slot p s taken)

-- a cell further into a split node
abbrev pub inward : Role → ℕ → ℕ → ℕ → Advance
inward role p part taken = if p == 0 then Absent else On (place_at role p part taken)

-- the step of a place inside a node, at the next byte of the key
abbrev pub advance_in_node : List ℕ → ℕ → ℕ → ℕ → ℕ → Role → Option ℕ → Advance
advance_in_node key p part taken word role None = Absent
advance_in_node key p part taken word Chain (Some b) = if byte_of word (p % 32 % 8) == b then (if p % 32 == 27 then follow key (half_of word true) (taken + 1) else (if nat_lt (p % 32) 27 then follow key (p + 1) (taken + 1) else Absent)) else Absent
advance_in_node key p part taken word Order (Some b) = advance_in_slots p taken (slot_at word b)
advance_in_node key p part taken word Slot (Some b) = follow key (half_of word (part % 2 == 1)) (taken + 1)
advance_in_node key p part taken word Top (Some b) = inward Mid (half_of word (part / 64 % 2 == 1)) part taken
advance_in_node key p part taken word Mid (Some b) = inward Leaf (half_of word (part / 8 % 8 % 2 == 1)) part taken
advance_in_node key p part taken word Leaf (Some b) = follow key (half_of word (part % 8 % 2 == 1)) (taken + 1)
advance_in_node key p part taken word _ (Some b) = Absent

abbrev pub step_of : List ℕ → ℕ → ℕ → ℕ → ℕ → Role → Advance
step_of key p part taken word Root = follow key (half_of word false) 0
step_of key p part taken word Prefix = prefix_step key word taken
step_of key p part taken word Head = Found record { cell = record_cell p; number = half_of word false; length = half_of word true }
step_of key p part taken word role = advance_in_node key p part taken word role (slice_get key taken)

-- what a place's word leads to
unfoldable pub outcome_of : Place → ℕ → List ℕ → Advance
outcome_of pl word key = step_of key pl.ptr pl.part pl.taken word pl.role

-- the number, by role and bytes taken, which falls with each load
abbrev pub left_at : Role → ℕ → ℕ → ℕ
left_at Root len taken = 4 * len + 2
left_at Prefix len taken = 4 * (len - taken) + 1
left_at Chain len taken = 4 * (len - taken)
left_at Order len taken = 4 * (len - taken)
left_at Top len taken = 4 * (len - taken)
left_at Slot len taken = 4 * (len - taken) - 1
left_at Mid len taken = 4 * (len - taken) - 1
left_at Leaf len taken = 4 * (len - taken) - 2
left_at Head len taken = 0

-- the number of a place for a key of so many bytes
abbrev pub measure_of : Place → ℕ → ℕ
measure_of pl len = left_at pl.role len pl.taken

-- the place is one of the image for the key: its pointer has the taken part of the key as path, or leads to the mid or
-- leaf cell of a node with this path, at the index of the key's next byte; the role fits the pointer's kind; a slot is
-- the one that the order word finds for the key's next byte
abbrev pub IsPlaceAt : List ℕ → Ledger → List ℕ → ℕ → ℕ → ℕ → Role → Type 0
IsPlaceAt w g key p part taken Root = taken ≡ 0
IsPlaceAt w g key p part taken Head = HasPath g p key × (kind_at p ≡ Some kind.Content) × (taken ≡ length key)
IsPlaceAt w g key p part taken Prefix = HasPath g p (take taken key) × (kind_at p ≡ Some kind.Prefix) × (taken ≤ length key)
IsPlaceAt w g key p part taken Chain = HasPath g p (take taken key) × (kind_at p ≡ Some kind.Chain) × (taken < length key)
IsPlaceAt w g key p part taken Order = HasPath g p (take taken key) × (kind_at p ≡ Some kind.Sparse) × (taken < length key)
IsPlaceAt w g key p part taken Slot = (b : ℕ) × HasPath g p (take taken key) × (kind_at p ≡ Some kind.Sparse) × (slice_get key taken ≡ Some b) × (slot_at (word_of w (p / 32) 3) b ≡ Some part)
IsPlaceAt w g key p part taken Top = HasPath g p (take taken key) × (kind_at p ≡ Some kind.Wide) × (slice_get key taken ≡ Some part)
IsPlaceAt w g key p part taken Mid = (t : ℕ) × (owner g (p / 32) ≡ Some (MidCell t (part / 64))) × (owner g t ≡ Some (TopCell (take taken key))) × (slice_get key taken ≡ Some part)
IsPlaceAt w g key p part taken Leaf = (t : ℕ) × (owner g (p / 32) ≡ Some (LeafCell t (part / 64) (part / 8 % 8))) × (owner g t ≡ Some (TopCell (take taken key))) × (slice_get key taken ≡ Some part)

-- the place is one of the image for the key, which is a list of bytes
pub record IsPlace (w : List ℕ) (g : Ledger) (key : List ℕ) (pl : Place) : Type 0 where
  pub bytes : ItemsAreBytes key
  pub role : IsPlaceAt w g key pl.ptr pl.part pl.taken pl.role

-- what a place sees for the rest of the key: what the words that it still loads lead to
abbrev pub role_sees : List ℕ → List ℕ → ℕ → ℕ → ℕ → Role → Option ℕ
role_sees w key p part taken Root = sees_from (reading w) (root_of w) key
role_sees w key p part taken Slot = sees_from (reading w) (field w (p / 32) part) (drop (taken + 1) key)
role_sees w key p part taken Mid = sees_from (reading w) (leaf_child w (field w (p / 32) (part / 8 % 8)) part) (drop (taken + 1) key)
role_sees w key p part taken Leaf = sees_from (reading w) (field w (p / 32) (part % 8)) (drop (taken + 1) key)
role_sees w key p part taken _ = sees (reading w) p (drop taken key)

-- the record that a place sees for the key, by its first cell
abbrev pub place_sees : List ℕ → List ℕ → Place → Option ℕ
place_sees w key pl = role_sees w key pl.ptr pl.part pl.taken pl.role
