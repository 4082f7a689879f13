-- The workers of a table dealt out as jobs, and what they left. This project's own.
use Rattle.std.specs.Prelude.{◌≡◌, ◌⊎◌, ◌≤◌, ℕ, suc, min, List, [], ◌∷◌, ◌++◌, length, slice_get, Option, Some, None, IfSome, All}
use Rattle.std.specs.Global.{Vec}
use Rattle.trie_rule.specs.Seats.{CellsAt, WriterAt, ReaderAt}
use Rattle.shard_table.specs.declared.workers.Workers.{Workers}
use Rattle.shard_table.specs.Seats.{TableAt, AreEach, IsFreeWriter, IsFreeReader}
use Rattle.script_text.specs.declared.spans.PutLine.{PutLine}
use Rattle.script_text.specs.declared.spans.GetLine.{GetLine}
use Rattle.load_work.specs.declared.batch.Answer.{Answer}
use Rattle.load_work.specs.declared.jobs.Job.{Job}
use Rattle.load_work.specs.declared.jobs.Job.TheVariants.{Write, Read}
use Rattle.load_work.specs.declared.jobs.Done.{Done}
use Rattle.load_work.specs.Puts.{HasWritten}
use Rattle.load_work.specs.Reads.{HasGrown, HasRead, AnswersRise, gets_of}
use Rattle.load_work.specs.Jobs.{CanRun, HasRun}

-- the jobs of these writers, the first of which is that of shard i
abbrev pub writes_from : ℕ → List WriterAt → List Job
writes_from i [] = []
writes_from i (s ∷ seats) = Write i s ∷ writes_from (suc i) seats

-- the jobs of these readers, the first of which is reader q
abbrev pub reads_from : ℕ → List (Vec ReaderAt) → List Job
reads_from q [] = []
reads_from q (seats ∷ readers) = Read q seats ∷ reads_from (suc q) readers

-- the jobs of all workers: of the writers, and then of the readers
abbrev pub jobs_of : Workers → List Job
jobs_of w = writes_from 0 w.writers.items ++ (reads_from 0 w.readers.items ++ [])

-- the workers are dealt from the last one to the first, so that the last place is the first worker's: it has what a
-- worker leaves that has nothing to do, or is empty, and then the last job is this worker's, who can do it
abbrev pub IsDealt : TableAt → List PutLine → List GetLine → List Job → List Job → List (Option Done) → Type 0
IsDealt table puts gets [] jobs places = (jobs ≡ []) × (places ≡ [])
IsDealt table puts gets (worker ∷ workers) jobs places =
    ((others : List (Option Done)) × (done : Done) × (places ≡ others ++ Some done ∷ [])
    × HasRun table puts gets worker done × IsDealt table puts gets workers jobs others)
    ⊎ ((others : List (Option Done)) × (more : List Job) × (places ≡ others ++ None ∷ []) × (jobs ≡ more ++ worker ∷ [])
    × CanRun table worker × IsDealt table puts gets workers more others)

-- where workers that were dealt left jobs and places, those with these before them leave the later ones
abbrev pub Deals : TableAt → List PutLine → List GetLine → List Job → List Job → List (Option Done) → List Job
    → List (Option Done) → Type 0
Deals table puts gets first jobs places jobs' places' = (workers : List Job)
    → IsDealt table puts gets workers jobs places → IsDealt table puts gets (first ++ workers) jobs' places'

-- one worker is dealt: it can do its job, or has nothing to do and leaves this
abbrev pub DealsJob : Job → List Job → List (Option Done) → List Job → List (Option Done) → Type 0
DealsJob job jobs places jobs' places' = (table : TableAt) (puts : List PutLine) (gets : List GetLine)
    → CanRun table job → Deals table puts gets (job ∷ []) jobs places jobs' places'

abbrev pub DealsDone : Done → List Job → List (Option Done) → List Job → List (Option Done) → Type 0
DealsDone done jobs places jobs' places' = (table : TableAt) (puts : List PutLine) (gets : List GetLine) (job : Job)
    → HasRun table puts gets job done → Deals table puts gets (job ∷ []) jobs places jobs' places'

-- readers are dealt, whose seats are those of the table's shards
abbrev pub DealsReaders : List GetLine → List (Vec ReaderAt) → List Job → List (Option Done) → List Job
    → List (Option Done) → Type 0
DealsReaders gets readers jobs places jobs' places' = (table : TableAt) (puts : List PutLine)
    → All (λ seats. AreEach IsFreeReader table.shards seats.items) readers
    → Deals table puts gets (reads_from 0 readers) jobs places jobs' places'

-- writers are dealt
abbrev pub DealsWriters : TableAt → List PutLine → List WriterAt → List Job → List (Option Done) → List Job
    → List (Option Done) → Type 0
DealsWriters table puts writers jobs places jobs' places' = (gets : List GetLine)
    → Deals table puts gets (writes_from 0 writers) jobs places jobs' places'

-- what these workers left is in these places, or is what their jobs left
abbrev pub IsLeft : TableAt → List PutLine → List GetLine → List Job → List Done → List (Option Done) → Type 0
IsLeft table puts gets workers left places = (jobs : List Job) × IsDealt table puts gets workers jobs places
    × AreEach (HasRun table puts gets) jobs left

-- the lesser of two lines, where there are two
abbrev pub earlier_line : Option ℕ → Option ℕ → Option ℕ
earlier_line None line = line
earlier_line (Some a) None = Some a
earlier_line (Some a) (Some b) = Some (min a b)

-- where there is a line, there is a first one, which is no later
abbrev pub IsNoLater : Option ℕ → Option ℕ → Type 0
IsNoLater first None = Unit {0}
IsNoLater None (Some line) = ⊥
IsNoLater (Some first) (Some line) = first ≤ line

-- the writers were these before and are those after their puts; `first` is the least line for which one had no room
pub record HaveWritten (table : TableAt) (puts : List PutLine) (before after : List WriterAt) (first : Option ℕ)
    : Type 0 where
  pub len : length after ≡ length before
  pub free : (i : ℕ) (t : WriterAt) → slice_get after i ≡ Some t
      → (cells : CellsAt) × (slice_get table.shards i ≡ Some cells) × IsFreeWriter cells t
  pub each : (i : ℕ) (s t : WriterAt) → slice_get before i ≡ Some s → slice_get after i ≡ Some t
      → (full : Option ℕ) × HasWritten table.bounds i s.knows t.knows puts full × IsNoLater first full
  pub first_is : IfSome first (λ line. (i : ℕ) × (s t : WriterAt) × (slice_get before i ≡ Some s)
      × HasWritten table.bounds i s.knows t.knows puts (Some line))

-- reader q had these seats before, has those after its gets, and answered this
pub record ReaderHasRead (table : TableAt) (gets : List GetLine) (q : ℕ) (before after : List ReaderAt)
    (answers : List Answer) : Type 0 where
  pub grown : AreEach HasGrown before after
  pub read : AreEach (HasRead table.bounds before after) (gets_of q gets) answers
  pub rise : AnswersRise answers

-- each reader had these seats before, has those after its gets, and answered this
pub record HaveRead (table : TableAt) (gets : List GetLine) (before after : List (Vec ReaderAt))
    (answers : List (Vec Answer)) : Type 0 where
  pub len : length after ≡ length before
  pub lists : length answers ≡ length before
  pub free : All (λ seats. AreEach IsFreeReader table.shards seats.items) after
  pub each : (q : ℕ) (old new : Vec ReaderAt) (list : Vec Answer) → slice_get before q ≡ Some old
      → slice_get after q ≡ Some new → slice_get answers q ≡ Some list
      → ReaderHasRead table gets q old.items new.items list.items

-- some worker is left
abbrev pub HasNext : List Done → List (Option Done) → Type 0
HasNext left places = (table : TableAt) × (puts : List PutLine) × (gets : List GetLine) × (job : Job)
    × (workers : List Job) × IsLeft table puts gets (job ∷ workers) left places

-- this is what the next worker left
abbrev pub IsNextDone : List Done → List (Option Done) → Done → Type 0
IsNextDone left places done = (table : TableAt) (puts : List PutLine) (gets : List GetLine) (job : Job)
    (workers : List Job) → IsLeft table puts gets (job ∷ workers) left places → HasRun table puts gets job done

-- the next worker is taken, and the others are left
abbrev pub TakesNext : List Done → List (Option Done) → List Done → List (Option Done) → Type 0
TakesNext left places left' places' = (table : TableAt) (puts : List PutLine) (gets : List GetLine) (job : Job)
    (workers : List Job) → IsLeft table puts gets (job ∷ workers) left places
    → IsLeft table puts gets workers left' places'

-- so many writers are left, before others
abbrev pub HasWriters : ℕ → List Done → List (Option Done) → Type 0
HasWriters count left places = (table : TableAt) × (puts : List PutLine) × (gets : List GetLine)
    × (before : List WriterAt) × (workers : List Job) × (length before ≡ count)
    × IsLeft table puts gets (writes_from 0 before ++ workers) left places

-- these are the seats that the writers left, and the first line for which one had no room
abbrev pub WritersLeft : ℕ → List Done → List (Option Done) → List WriterAt → Option ℕ → Type 0
WritersLeft count left places after first = (table : TableAt) (puts : List PutLine) (gets : List GetLine)
    (before : List WriterAt) (workers : List Job) → length before ≡ count
    → IsLeft table puts gets (writes_from 0 before ++ workers) left places → HaveWritten table puts before after first

-- the writers are taken, and the others are left
abbrev pub TakesWriters : ℕ → List Done → List (Option Done) → List Done → List (Option Done) → Type 0
TakesWriters count left places left' places' = (table : TableAt) (puts : List PutLine) (gets : List GetLine)
    (before : List WriterAt) (workers : List Job) → length before ≡ count
    → IsLeft table puts gets (writes_from 0 before ++ workers) left places
    → IsLeft table puts gets workers left' places'

-- so many readers are left
abbrev pub HasReaders : ℕ → List Done → List (Option Done) → Type 0
HasReaders count left places = (table : TableAt) × (puts : List PutLine) × (gets : List GetLine)
    × (before : List (Vec ReaderAt)) × (workers : List Job) × (length before ≡ count)
    × IsLeft table puts gets (reads_from 0 before ++ workers) left places

-- these are the seats that the readers left, and their answers
abbrev pub ReadersLeft : ℕ → List Done → List (Option Done) → List (Vec ReaderAt) → List (Vec Answer) → Type 0
ReadersLeft count left places after lists = (table : TableAt) (puts : List PutLine) (gets : List GetLine)
    (before : List (Vec ReaderAt)) (workers : List Job) → length before ≡ count
    → IsLeft table puts gets (reads_from 0 before ++ workers) left places → HaveRead table gets before after lists
