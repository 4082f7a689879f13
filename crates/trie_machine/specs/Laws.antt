-- Each event leads from a state of the machine to a state of the machine, and what its load tells.
use Rattle.std.specs.Prelude.{◌≡◌, ℕ, ◌+◌, ◌*◌, ◌^◌, ◌<◌, ◌≤◌, List, [], ◌++◌, length, slice_index, replicate, Option, Some, None}
use Rattle.trie_image.specs.declared.Put.{Put}
use Rattle.trie_image.specs.declared.Rec.{Rec}
use Rattle.trie_image.specs.declared.StoreKind.{StoreKind}
use Rattle.trie_image.specs.declared.WordStore.{WordStore}
use Rattle.trie_image.specs.declared.Place.{Place}
use Rattle.trie_image.specs.declared.Advance.{Advance}
use Rattle.trie_image.specs.declared.Advance.TheVariants.{On, Found, Absent}
use Rattle.trie_image.specs.Place.{start_place, next_word_of, outcome_of, measure_of}
use Rattle.trie_image.specs.Puts.{IsKey, HasLastPut}
use Rattle.trie_image.specs.Way.{OnTheWay}
use Rattle.trie_machine.specs.declared.Begun.{Begun}
use Rattle.trie_machine.specs.declared.Find.{Find}
use Rattle.trie_machine.specs.declared.Reader.{Reader}
use Rattle.trie_machine.specs.Fresh.{IsAnswer}
use Rattle.trie_machine.specs.State.{MachineState, HasImage, IsMachine}
use Rattle.trie_machine.specs.Events.{Begins, HasNext, Prepares, Publishes, Finishes, resting, Fronts, FrontsWithoutKey, HasFind, loaded, Loads, LoadTells, Copies, value_word_at, IsWordOf, Splits, SplitsWriter, Joins, Looks}

-- all words 0, and readers that know of no put
abbrev pub opening : ℕ → ℕ → MachineState
opening cells readers = record { cells = cells; words = replicate (4 * cells) 0; used = 1; puts = []; begun = None; readers = replicate readers (Some (resting 0)) }

abbrev pub LawNew : Type 0
LawNew = (cells readers : ℕ) → 1 ≤ cells → cells ≤ 2 ^ 22 → IsMachine (opening cells readers)

abbrev pub LawBegin : Type 0
LawBegin = (m m' : MachineState) (key value : List ℕ) → IsMachine m → Begins m m' key value → IsMachine m'

abbrev pub LawPrepare : Type 0
LawPrepare = (m m' : MachineState) → IsMachine m → Prepares m m' → IsMachine m'

abbrev pub LawPublish : Type 0
LawPublish = (m m' : MachineState) → IsMachine m → Publishes m m' → IsMachine m'

abbrev pub LawFinish : Type 0
LawFinish = (m m' : MachineState) → IsMachine m → Finishes m m' → IsMachine m'

-- each store of the put under way is of a word of the image
abbrev pub LawStoreInside : Type 0
LawStoreInside = (m : MachineState) (put : Begun) (store : WordStore) (left : List WordStore) (kind : StoreKind) → IsMachine m → HasNext m put store left kind → store.word < length m.words

abbrev pub LawFront : Type 0
LawFront = (m m' : MachineState) (i : ℕ) (key : List ℕ) → IsMachine m → Fronts m m' i key → IsMachine m'

-- so is the word that a find loads
abbrev pub LawLoadInside : Type 0
LawLoadInside = (m : MachineState) (i : ℕ) (reader : Reader) (find : Find) → IsMachine m → HasFind m i reader find → next_word_of find.place < length m.words

-- a find goes on, or ends with a legal answer
abbrev pub LawLoad : Type 0
LawLoad = (m m' : MachineState) (i : ℕ) → IsMachine m → (l : Loads m m' i) → IsMachine m' × LoadTells m.puts (length m.words) l.find (loaded m.words l.find)

-- the loaded word lies in the image, and has the value's bytes
abbrev pub LawCopy : Type 0
LawCopy = (m m' : MachineState) (rec : Rec) (i : ℕ) → IsMachine m → (c : Copies m m' rec i) → IsMachine m' × (value_word_at rec i < length m.words) × IsWordOf c.has_word.put.value i (slice_index m.words (value_word_at rec i))

abbrev pub LawSplit : Type 0
LawSplit = (m m' : MachineState) (i : ℕ) → IsMachine m → Splits m m' i → IsMachine m'

abbrev pub LawJoin : Type 0
LawJoin = (m m' : MachineState) (j i : ℕ) → IsMachine m → Joins m m' j i → IsMachine m'

-- the words are those of a well-formed image, and word 0 counts the puts where none is under way
abbrev pub LawLook : Type 0
LawLook = (m m' : MachineState) (word : ℕ) → IsMachine m → Looks m m' word → IsMachine m' × HasImage m.words m.cells m.used m.puts × (m.begun ≡ None → slice_index m.words 0 ≡ length m.puts)

abbrev pub LawFrontWithoutKey : Type 0
LawFrontWithoutKey = (m m' : MachineState) (i : ℕ) → IsMachine m → FrontsWithoutKey m m' i → IsMachine m'

abbrev pub LawSplitWriter : Type 0
LawSplitWriter = (m m' : MachineState) → IsMachine m → SplitsWriter m m' → IsMachine m'

-- a legal answer stays one when puts are added
abbrev pub LawLongerAnswer : Type 0
LawLongerAnswer = (puts more : List Put) (base at : ℕ) (key : List ℕ) (hit : Option Rec) → IsAnswer puts base key hit at → IsAnswer (puts ++ more) base key hit at

-- how many stores a put takes, those that are done and those that are left
abbrev pub LawFewStores : Type 0
LawFewStores = (m : MachineState) (put : Begun) → IsMachine m → m.begun ≡ Some put → length put.done + length put.left ≤ 4 * m.cells + 1

-- what the load of a place on the way to a key tells while no word changes: the next place is on the way too and has a lower
-- number, or the walk ends with what the map of the puts has at the key
abbrev pub WalkTells : List ℕ → List Put → List ℕ → Place → Advance → Type 0
WalkTells words puts key place (On next) = OnTheWay words key next × (measure_of next (length key) < measure_of place (length key))
WalkTells words puts key place (Found rec) = HasLastPut puts key (Some rec)
WalkTells words puts key place Absent = HasLastPut puts key None

-- a walk over words that stand still: the start is on the way, each place on the way loads a word of the image, and leads on
abbrev pub LawStandingWalk : Type 0
LawStandingWalk = (words : List ℕ) (cells used : ℕ) (puts : List Put) (key : List ℕ) → HasImage words cells used puts → IsKey key
    → OnTheWay words key start_place × ((place : Place) → OnTheWay words key place → (next_word_of place < length words) × WalkTells words puts key place (outcome_of place (slice_index words (next_word_of place)) key))
