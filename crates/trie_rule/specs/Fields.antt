-- How the fields that seats hold at run time follow from what they know. This project's own.
use Rattle.std.specs.Prelude.{◌≡◌, ℕ, ◌+◌, ◌*◌, ◌/◌, ◌<◌, ◌≤◌, max, List, [], length, Option, Some, None}
use Rattle.atomic_table.specs.declared.shared.Seat.{Seat}
use Rattle.trie_image.specs.declared.Advance.{Advance}
use Rattle.trie_image.specs.declared.Advance.TheVariants.{On, Found, Absent}
use Rattle.trie_image.specs.declared.StoreKind.{StoreKind}
use Rattle.trie_image.specs.declared.StoreKind.TheVariants.{Prepare, Publish, Finish}
use Rattle.trie_image.specs.declared.WordStore.{WordStore}
use Rattle.trie_image.specs.Puts.{IsKey}
use Rattle.trie_image.specs.Place.{next_word_of}
use Rattle.trie_machine.specs.declared.Begun.{Begun}
use Rattle.trie_machine.specs.declared.Find.{Find}
use Rattle.trie_machine.specs.State.{IsMachine}
use Rattle.trie_rule.specs.declared.views.WriteView.{WriteView}
use Rattle.trie_rule.specs.declared.views.ReadView.{ReadView}
use Rattle.trie_rule.specs.declared.views.View.{View}
use Rattle.trie_rule.specs.declared.views.View.TheVariants.{Writes, Reads}
use Rattle.trie_rule.specs.Rule.{state_of, write_view_of, read_view_of}
use Rattle.trie_rule.specs.Kinds.{HasValuesBelow}
use Rattle.trie_rule.specs.Seats.{WriterAt, ReaderAt, IsNext}

-- how many stores of the put under way are made
abbrev pub done_of : Option Begun → ℕ
done_of None = 0
done_of (Some b) = length b.done

-- a find under way began with this front
abbrev pub HasBase : ℕ → Option Find → Type 0
HasBase front None = Unit {0}
HasBase front (Some f) = f.base ≡ front

-- the key of a find is within its limits, and the word that it needs is below this number
abbrev pub IsWithin : ℕ → Option Find → Type 0
IsWithin words None = Unit {0}
IsWithin words (Some f) = IsKey f.key × (next_word_of f.place < words)

module _ {S : Type 0} where
  abbrev pub writer_at : Seat S View → WriterAt
  writer_at s = record { table_id = s.table_id; knows = write_view_of s.me.0 }

  abbrev pub reader_at : Seat S View → ReaderAt
  reader_at s = record { table_id = s.table_id; knows = read_view_of s.me.0 }

  -- the writer's seat holds the cells taken and the stores made; its view and no readers are a state of the machine
  abbrev pub HoldsWriter : Seat S View → ℕ → ℕ → Type 0
  HoldsWriter s used done = let w : WriteView = write_view_of s.me.0 in
      (s.me ≡ (Writes w, [])) × (s.table_id.words ≡ 4 * w.cells)
      × (used ≡ w.used) × (done ≡ done_of w.begun) × IsMachine (state_of w [])

  -- a reader's seat holds its front, from which its find began; the word that the find needs next, and the values that the
  -- reader has seen, lie in the table
  abbrev pub HoldsReader : Seat S View → ℕ → Type 0
  HoldsReader s front = let r : ReadView = read_view_of s.me.0 in
      (s.me ≡ (Reads r, [])) × (s.table_id.words ≡ 4 * r.cells)
      × (front ≡ r.reader.front) × HasBase front r.reader.find × IsWithin (4 * r.cells) r.reader.find
      × (front ≤ length r.seen) × HasValuesBelow (4 * r.cells) r.seen

-- the next store of the put is of this word and value
pub record IsStoreAt (w : WriteView) (key value : List ℕ) (word stored : ℕ) : Type 0 where
  pub store : WordStore
  pub next : IsNext w key value store
  pub word_is : word ≡ store.word
  pub value_is : stored ≡ store.value

-- the cells taken and the stores made, after a store of this kind
abbrev pub Counts : StoreKind → ℕ → ℕ → ℕ → ℕ → Type 0
Counts Prepare used done used' done' = (used' ≡ used) × (done' ≡ done + 1)
Counts Publish used done used' done' = (used' ≡ used + done / 4) × (done' ≡ done + 1)
Counts Finish used done used' done' = (used' ≡ used) × (done' ≡ 0)

-- the front after a load of a find that has this outcome
abbrev pub front_by : ℕ → Advance → ℕ
front_by front (On place) = front
front_by front (Found rec) = max front rec.number
front_by front Absent = front
