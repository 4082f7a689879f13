-- The machine at run time, as contracts see it. This project's own.
use Rattle.std.specs.Prelude.{◌≡◌, ℕ, ◌+◌, ◌<◌, ◌≤◌, List, ◌∷◌, length, max, slice_index, Some, None}
use mathlib.Core.Option.{some}
use lib.ListN.{get_elem?}
use Rattle.trie_image.specs.declared.Advance.{Advance}
use Rattle.trie_image.specs.declared.Advance.TheVariants.{On, Found, Absent}
use Rattle.trie_image.specs.Stores.{cost}
use Rattle.trie_machine.specs.declared.Find.{Find}
use Rattle.trie_machine.specs.declared.Reader.{Reader}
use Rattle.trie_machine.specs.declared.Event.{Event}
use Rattle.trie_machine.specs.declared.Event.TheVariants.{Prepare, Publish, Finish, Front, Load, Copy, Split, Join}
use Rattle.trie_machine.specs.declared.BeginError.{BeginError}
use Rattle.trie_machine.specs.declared.BeginError.TheVariants as begin_error
use Rattle.trie_machine.specs.declared.Outcome.{Outcome}
use Rattle.trie_machine.specs.declared.Outcome.TheVariants as outcome
use Rattle.trie_machine.specs.Fresh.{answer_at, IsAnswer}
use Rattle.trie_machine.specs.Events.{HasFind, Prepares, Publishes, Finishes, Fronts, loaded, Loads, Copies, value_word_at, Splits, Joins}
use Rattle.trie_machine.specs.State.{MachineState}

-- a state of the machine, and how many events led to it; the count stops at 2^64 - 1
pub record Counted : Type 0 where
  pub state : MachineState
  pub events : ℕ

-- a list's first element
abbrev pub HasFirst : {A : Type 0} → List A → A → Type 0
HasFirst {A} xs x = (rest : List A) × (xs ≡ x ∷ rest)

-- what a load answers
abbrev pub load_answer : Find → Advance → Outcome
load_answer f (On place) = outcome.Moved
load_answer f (Found rec) = outcome.Found (Some rec) (answer_at f.base (Some rec))
load_answer f Absent = outcome.Found None (answer_at f.base None)

-- an event leads from a state to another and has this answer
abbrev pub Leads : Event → MachineState → MachineState → Outcome → Type 0
Leads Prepare m m' o = Prepares m m' × (o ≡ outcome.Quiet)
Leads Publish m m' o = Publishes m m' × (o ≡ outcome.Published (length m'.puts))
Leads Finish m m' o = Finishes m m' × (o ≡ outcome.Finished (length m'.puts))
Leads (Front reader key) m m' o = (f : Fronts m m' reader key) × (o ≡ outcome.Front (max f.reader.front (slice_index m.words 0)))
Leads (Load reader) m m' o = (l : Loads m m' reader) × (o ≡ load_answer l.find (loaded m.words l.find))
Leads (Copy reader rec word) m m' o = Copies m m' rec word × (o ≡ outcome.Word (slice_index m.words (value_word_at rec word))) × (r : Reader) × (get_elem? m.readers reader ≡ some (Some r))
Leads (Split from) m m' o = Splits m m' from × (o ≡ outcome.Reader (length m.readers))
Leads (Join from into) m m' o = Joins m m' from into × (o ≡ outcome.Quiet)

-- an answer that ends a find is a legal one of this find
abbrev pub IsLegalLoad : MachineState → ℕ → Outcome → Type 0
IsLegalLoad m i (outcome.Found hit at) = (r : Reader) × (f : Find) × HasFind m i r f × IsAnswer m.puts f.base f.key hit at
IsLegalLoad m i outcome.Quiet = Unit {0}
IsLegalLoad m i (outcome.Published number) = Unit {0}
IsLegalLoad m i (outcome.Finished number) = Unit {0}
IsLegalLoad m i (outcome.Front front) = Unit {0}
IsLegalLoad m i outcome.Moved = Unit {0}
IsLegalLoad m i (outcome.Word word) = Unit {0}
IsLegalLoad m i (outcome.Reader number) = Unit {0}

-- what an event answers is legal: only a load ends a find
abbrev pub IsLegal : Event → MachineState → Outcome → Type 0
IsLegal Prepare m o = Unit {0}
IsLegal Publish m o = Unit {0}
IsLegal Finish m o = Unit {0}
IsLegal (Front reader key) m o = Unit {0}
IsLegal (Load reader) m o = IsLegalLoad m reader o
IsLegal (Copy reader rec word) m o = Unit {0}
IsLegal (Split from) m o = Unit {0}
IsLegal (Join from into) m o = Unit {0}

-- the refusals of a put that doesn't begin: the number of the put under way, and the cells that are taken, that it costs and
-- that there are
abbrev pub busy : MachineState → BeginError
busy m = begin_error.Busy (slice_index m.words 0 + 1)

abbrev pub full : MachineState → List ℕ → List ℕ → BeginError
full m key value = begin_error.Full m.used (cost (length key) (length value)) m.cells

-- there is room for the put's cost
abbrev pub HasCapacity : MachineState → List ℕ → List ℕ → Type 0
HasCapacity m key value = m.used + cost (length key) (length value) ≤ m.cells

-- and there isn't
abbrev pub LacksCapacity : MachineState → List ℕ → List ℕ → Type 0
LacksCapacity m key value = m.cells < m.used + cost (length key) (length value)
