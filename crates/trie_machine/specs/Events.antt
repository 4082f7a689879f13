-- The events of the machine, each a load or a store of one word, as relations between the state before and the state after.
-- An event is enabled where it leads anywhere. This project's own.
use Rattle.std.specs.Prelude.{◌≡◌, ◌≢◌, ℕ, ◌+◌, ◌*◌, ◌/◌, ◌^◌, ◌<◌, ◌≤◌, max, List, [], ◌∷◌, ◌++◌, length, slice_index, slice_set, Option, Some, None}
use mathlib.Core.Option.{some}
use lib.ListN.{get_elem?}
use Rattle.cell_layout.specs.Words.{byte_of}
use Rattle.trie_image.specs.declared.Put.{Put}
use Rattle.trie_image.specs.declared.Rec.{Rec}
use Rattle.trie_image.specs.declared.Advance.{Advance}
use Rattle.trie_image.specs.declared.Advance.TheVariants.{On, Found, Absent}
use Rattle.trie_image.specs.declared.StoreKind.{StoreKind}
use Rattle.trie_image.specs.declared.StoreKind.TheVariants.{Prepare, Publish, Finish}
use Rattle.trie_image.specs.declared.WordStore.{WordStore}
use Rattle.trie_image.specs.Puts.{IsKey, IsValue, IsRecOf}
use Rattle.trie_image.specs.Place.{start_place, next_word_of, outcome_of, measure_of}
use Rattle.trie_image.specs.Stores.{stores_of, cost}
use Rattle.trie_image.specs.Publish.{put_at}
use Rattle.trie_machine.specs.declared.Begun.{Begun}
use Rattle.trie_machine.specs.declared.Find.{Find}
use Rattle.trie_machine.specs.declared.Reader.{Reader}
use Rattle.trie_machine.specs.Fresh.{answer_at, IsAnswer}
use Rattle.trie_machine.specs.State.{MachineState}

-- a put under way of which no store is made, in a state
abbrev pub new_put : MachineState → List ℕ → List ℕ → Begun
new_put m key value = record { key = key; value = value; done = []; left = stores_of m.words m.used key value }

-- the writer gets its next put: there is none under way, key and value are within their limits, and there is room for the
-- put's cost
pub record Begins (m m' : MachineState) (key value : List ℕ) : Type 0 where
  pub free : m.begun ≡ None
  pub is_key : IsKey key
  pub is_value : IsValue value
  pub capacity : m.used + cost (length key) (length value) ≤ m.cells
  pub next : m' ≡ record m { begun = Some (new_put m key value) }

-- the next store of the put under way is s, of this kind
pub record HasNext (m : MachineState) (b : Begun) (s : WordStore) (left : List WordStore) (kind : StoreKind) : Type 0 where
  pub begun : m.begun ≡ Some b
  pub next : b.left ≡ s ∷ left
  pub kind_is : s.kind ≡ kind

-- the words after a store, and the put under way
abbrev pub stored : MachineState → WordStore → List ℕ
stored m s = slice_set m.words s.word s.value

abbrev pub with_done : Begun → WordStore → List WordStore → Begun
with_done b s left = record b { done = b.done ++ s ∷ []; left = left }

-- the next store is a Prepare store, and is made
pub record Prepares (m m' : MachineState) : Type 0 where
  pub put : Begun
  pub store : WordStore
  pub left : List WordStore
  pub is_next : HasNext m put store left Prepare
  pub next : m' ≡ record m { words = stored m store; begun = Some (with_done put store left) }

-- the next store is the publishing one, and is made: the put is one of the puts, and its cells, of which the stores before
-- filled four words each, are taken
pub record Publishes (m m' : MachineState) : Type 0 where
  pub put : Begun
  pub store : WordStore
  pub left : List WordStore
  pub is_next : HasNext m put store left Publish
  pub next : m' ≡ record m {
    words = stored m store;
    used = m.used + length put.done / 4;
    puts = m.puts ++ put_at put.key put.value m.used ∷ [];
    begun = Some (with_done put store left);
  }

-- the next store is the Finish, and is made: no put is under way
pub record Finishes (m m' : MachineState) : Type 0 where
  pub put : Begun
  pub store : WordStore
  pub left : List WordStore
  pub is_next : HasNext m put store left Finish
  pub next : m' ≡ record m { words = stored m store; begun = None }

-- another reader, or none, in the place of reader i
abbrev pub with_reader : MachineState → ℕ → Option Reader → MachineState
with_reader m i r = record m { readers = slice_set m.readers i r }

-- a reader without a find, and one that begins a find
abbrev pub resting : ℕ → Reader
resting front = record { front = front; find = None }

abbrev pub starting : ℕ → List ℕ → Reader
starting front key = record { front = front; find = Some record { key = key; base = front; place = start_place } }

-- reader i is there and has no find
pub record IsResting (m : MachineState) (i : ℕ) (r : Reader) : Type 0 where
  pub there : get_elem? m.readers i ≡ some (Some r)
  pub rests : r.find ≡ None

-- reader i loads word 0, which raises its front where it is greater, and begins a find of the key
pub record Fronts (m m' : MachineState) (i : ℕ) (key : List ℕ) : Type 0 where
  pub reader : Reader
  pub rests : IsResting m i reader
  pub is_key : IsKey key
  pub next : m' ≡ with_reader m i (Some (starting (max reader.front (slice_index m.words 0)) key))

-- the same without a find
pub record FrontsWithoutKey (m m' : MachineState) (i : ℕ) : Type 0 where
  pub reader : Reader
  pub rests : IsResting m i reader
  pub next : m' ≡ with_reader m i (Some (resting (max reader.front (slice_index m.words 0))))

-- what the word that a find loads leads to
abbrev pub loaded : List ℕ → Find → Advance
loaded words f = outcome_of f.place (slice_index words (next_word_of f.place)) f.key

-- the reader after it: the find goes on at a place, or ends, and the number of puts that its answer stands for is the front
abbrev pub reader_after : Reader → Find → Advance → Reader
reader_after r f (On place) = record r { find = Some (record f { place = place }) }
reader_after r f (Found rec) = resting (answer_at f.base (Some rec))
reader_after r f Absent = resting (answer_at f.base None)

-- reader i is there and has the find
pub record HasFind (m : MachineState) (i : ℕ) (r : Reader) (f : Find) : Type 0 where
  pub there : get_elem? m.readers i ≡ some (Some r)
  pub under_way : r.find ≡ Some f

-- reader i loads the word that its find needs
pub record Loads (m m' : MachineState) (i : ℕ) : Type 0 where
  pub reader : Reader
  pub find : Find
  pub has_find : HasFind m i reader find
  pub next : m' ≡ with_reader m i (Some (reader_after reader find (loaded m.words find)))

-- what such a load tells, where there are these puts and so many words: the next place needs a word of the image and has a
-- lower number, or the answer is legal
abbrev pub LoadTells : List Put → ℕ → Find → Advance → Type 0
LoadTells puts words f (On place) = (next_word_of place < words) × (measure_of place (length f.key) < measure_of f.place (length f.key))
LoadTells puts words f (Found rec) = IsAnswer puts f.base f.key (Some rec) (answer_at f.base (Some rec))
LoadTells puts words f Absent = IsAnswer puts f.base f.key None (answer_at f.base None)

-- the record is that of a put, whose value has a word i, from 0
pub record HasWord (puts : List Put) (rec : Rec) (i : ℕ) : Type 0 where
  pub number : ℕ
  pub put : Put
  pub is_record : IsRecOf puts number put rec
  pub more : 8 * i < length put.value

-- a reader loads this word
pub record Copies (m m' : MachineState) (rec : Rec) (i : ℕ) : Type 0 where
  pub has_word : HasWord m.puts rec i
  pub next : m' ≡ m

-- the word of the image that it loads
abbrev pub value_word_at : Rec → ℕ → ℕ
value_word_at rec i = 4 * rec.cell + 1 + i

-- the word has eight bytes of the value from its place on, filled with zeros
abbrev pub IsWordOf : List ℕ → ℕ → ℕ → Type 0
IsWordOf value i word = (j : ℕ) → j < 8 → byte_of word j ≡ slice_index value (8 * i + j)

-- a reader with the front of reader i is made
pub record Splits (m m' : MachineState) (i : ℕ) : Type 0 where
  pub reader : Reader
  pub there : get_elem? m.readers i ≡ some (Some reader)
  pub fewer : length m.readers < 2 ^ 32
  pub next : m' ≡ record m { readers = m.readers ++ Some (resting reader.front) ∷ [] }

-- the writer makes a reader, whose front is the number of finished puts
abbrev pub SplitsWriter : MachineState → MachineState → Type 0
SplitsWriter m m' = m' ≡ record m { readers = m.readers ++ Some (resting (slice_index m.words 0)) ∷ [] }

-- reader j ends, and reader i takes its front where that is greater
pub record Joins (m m' : MachineState) (j i : ℕ) : Type 0 where
  pub from : Reader
  pub into : Reader
  pub apart : j ≢ i
  pub from_rests : IsResting m j from
  pub into_rests : IsResting m i into
  pub next : m' ≡ with_reader (with_reader m i (Some (resting (max into.front from.front)))) j None

-- a load of any word, which changes nothing
pub record Looks (m m' : MachineState) (word : ℕ) : Type 0 where
  pub inside : word < length m.words
  pub next : m' ≡ m
