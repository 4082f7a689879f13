-- A whole batch: what it asks of the workers, what it leaves, and what it answers. This project's own.
use Rattle.std.specs.Prelude.{◌≡◌, ◌<◌, ◌≤◌, ℕ, List, length, take, slice_get, Option, Some, Result, Ok, Err, IfSome, All}
use Rattle.std.specs.Global.{Vec}
use Rattle.trie_image.specs.declared.Put.{Put}
use Rattle.trie_image.specs.declared.Rec.{Rec}
use Rattle.trie_image.specs.Puts.{HasLastPut}
use Rattle.trie_rule.specs.declared.views.WriteView.{WriteView}
use Rattle.trie_rule.specs.Rule.{IsStartOf}
use Rattle.trie_rule.specs.Seats.{CellsAt, WriterAt, ReaderAt}
use Rattle.trie_reader.specs.Read.{IsSeenRecord}
use Rattle.shard_table.specs.declared.workers.Workers.{Workers}
use Rattle.shard_table.specs.Seats.{TableAt, AreEach, AreWorkers, IsNewWriter, IsNewReader, OfSeat}
use Rattle.script_text.specs.declared.spans.PutLine.{PutLine}
use Rattle.script_text.specs.declared.spans.GetLine.{GetLine}
use Rattle.load_work.specs.declared.batch.Answer.{Answer}
use Rattle.load_work.specs.declared.work.LoadError.{LoadError}
use Rattle.load_work.specs.declared.work.LoadError.TheVariants as load_error
use Rattle.load_work.specs.Puts.{Makes, StopsAt, HasWritten, puts_of}
use Rattle.load_work.specs.Reads.{IsGet, AnswersTo}

-- the get is within its limits, and its reader is one of so many
pub record IsGetBelow (readers : ℕ) (g : GetLine) : Type 0 where
  pub get : IsGet g
  pub reader : g.reader < readers

-- the reader knows all puts that the writer has made
pub record HasLearnt (w : WriterAt) (s : ReaderAt) : Type 0 where
  pub seen : IsStartOf w.knows.made s.knows.seen
  pub front : length w.knows.made ≤ s.knows.reader.front

abbrev pub HaveLearnt : Workers → Type 0
HaveLearnt w = All (λ seats. AreEach HasLearnt w.writers.items seats.items) w.readers.items

-- each writer made the puts of its shard
abbrev pub HaveMade : List (List ℕ) → List PutLine → Workers → Workers → Type 0
HaveMade bounds puts before after = (i : ℕ) (s t : WriterAt) → slice_get before.writers.items i ≡ Some s
    → slice_get after.writers.items i ≡ Some t → Makes s.knows (puts_of bounds i puts) t.knows

-- what the map of the first `at` puts has at the get's key; `at` lies between the puts made before and those made now
pub record IsLegal (made made' : List Put) (g : GetLine) (a : Answer) : Type 0 where
  pub least : length made ≤ a.at
  pub most : a.at ≤ length made'
  pub map : HasLastPut (take a.at made') g.key.now a.hit

-- the answer is that of the get, by a seat that is there; it is legal for its shard's puts, and its record is one that
-- this seat has seen
pub record IsAnswerOf (table : TableAt) (before after : Workers) (g : GetLine) (a : Answer) : Type 0 where
  pub names : AnswersTo table.bounds g a
  pub inside : a.shard < length table.shards
  pub reader : a.reader < length after.readers.items
  pub legal : (s t : WriterAt) → slice_get before.writers.items a.shard ≡ Some s
      → slice_get after.writers.items a.shard ≡ Some t → IsLegal s.knows.made t.knows.made g a
  pub seen : IfSome a.hit (λ rec. OfSeat (λ seat. IsSeenRecord seat.knows.seen rec) after a.reader a.shard)

-- answers to one reader at one shard don't fall
abbrev pub ReadsRise : List Answer → Type 0
ReadsRise answers = (i j : ℕ) (a b : Answer) → i < j → slice_get answers i ≡ Some a → slice_get answers j ≡ Some b
    → a.reader ≡ b.reader → a.shard ≡ b.shard → a.at ≤ b.at

-- shard i has no room for its put on this line, and had room for those before it
abbrev pub IsFullAt : List (List ℕ) → List PutLine → Workers → ℕ → ℕ → Type 0
IsFullAt bounds puts w i line = (s : WriterAt) × (t : WriteView) × (slice_get w.writers.items i ≡ Some s)
    × StopsAt s.knows (puts_of bounds i puts) line t

-- a shard has no room for its put on this line, and none has none on an earlier line
pub record IsFirstFull (bounds : List (List ℕ)) (puts : List PutLine) (w : Workers) (line : ℕ) : Type 0 where
  pub shard : ℕ
  pub full : IsFullAt bounds puts w shard line
  pub least : (i other : ℕ) → IsFullAt bounds puts w i other → line ≤ other

abbrev pub NoneIsFull : List (List ℕ) → List PutLine → Workers → Type 0
NoneIsFull bounds puts w = (i line : ℕ) → IsFullAt bounds puts w i line → ⊥

-- each writer made the puts of its shard, up to the first for which its shard had no room
abbrev pub HaveTried : List (List ℕ) → List PutLine → Workers → Workers → Type 0
HaveTried bounds puts before after = (i : ℕ) (s t : WriterAt) → slice_get before.writers.items i ≡ Some s
    → slice_get after.writers.items i ≡ Some t → (full : Option ℕ) × HasWritten bounds i s.knows t.knows puts full

-- the seats are those of the shards again, unless there was no memory: then some may be lost
abbrev pub LeavesWorkers : List CellsAt → Workers → Result (Vec Answer) LoadError → Type 0
LeavesWorkers shards w (Err load_error.NoMemory) = Unit {0}
LeavesWorkers shards w (Err (load_error.Full line)) = AreWorkers shards w
LeavesWorkers shards w (Ok answers) = AreWorkers shards w

-- some list of puts that begins with those made has this at the key after its first `at`
abbrev pub IsFoundFrom : List Put → List ℕ → Option Rec → ℕ → Type 0
IsFoundFrom made key hit at = (seen : List Put) × IsStartOf made seen × (at ≤ length seen)
    × HasLastPut (take at seen) key hit

-- readers of new shards know all puts that were made there: none
abbrev pub LawNewHaveLearnt : Type 0
LawNewHaveLearnt = (shards : List CellsAt) (w : Workers) → AreEach IsNewWriter shards w.writers.items
    → All (λ seats. AreEach IsNewReader shards seats.items) w.readers.items → HaveLearnt w
