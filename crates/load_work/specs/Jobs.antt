-- The jobs of a batch, and what they leave. This project's own.
use Rattle.std.specs.Prelude.{◌≡◌, ℕ, List, slice_get, Some, IfOk}
use Rattle.trie_rule.specs.Seats.{CellsAt}
use Rattle.trie_writer.specs.Written.{MayWrite}
use Rattle.shard_table.specs.Seats.{TableAt, AreEach, IsFreeReader}
use Rattle.script_text.specs.declared.spans.PutLine.{PutLine}
use Rattle.script_text.specs.declared.spans.GetLine.{GetLine}
use Rattle.load_work.specs.declared.jobs.Job.{Job}
use Rattle.load_work.specs.declared.jobs.Job.TheVariants.{Write, Read}
use Rattle.load_work.specs.declared.jobs.Done.{Done}
use Rattle.load_work.specs.declared.jobs.Done.TheVariants as done
use Rattle.load_work.specs.Puts.{HasWritten}
use Rattle.load_work.specs.Reads.{HasGrown, HasRead, AnswersRise, gets_of}

-- the job's seats are those of the table's shards: a writer of its shard with no put under way, or readers of all
-- shards with no find under way
abbrev pub CanRun : TableAt → Job → Type 0
CanRun table (Write i seat) = (cells : CellsAt) × (slice_get table.shards i ≡ Some cells) × MayWrite cells seat
CanRun table (Read q seats) = AreEach IsFreeReader table.shards seats.items

-- what a job leaves: its shard's puts are made, or its reader's gets are answered
abbrev pub HasRun : TableAt → List PutLine → List GetLine → Job → Done → Type 0
HasRun table puts gets (Write i seat) (done.Wrote after full) =
    CanRun table (Write i after) × HasWritten table.bounds i seat.knows after.knows puts full
HasRun table puts gets (Read q seats) (done.HasRead after answers) =
    CanRun table (Read q after) × AreEach HasGrown seats.items after.items
    × IfOk answers (λ list. AreEach (HasRead table.bounds seats.items after.items) (gets_of q gets) list.items
    × AnswersRise list.items)
HasRun table puts gets (Write i seat) (done.HasRead after answers) = ⊥
HasRun table puts gets (Read q seats) (done.Wrote after full) = ⊥

abbrev pub EachHasRun : TableAt → List PutLine → List GetLine → List Job → List Done → Type 0
EachHasRun table puts gets jobs all = (i : ℕ) (job : Job) (one : Done) → slice_get jobs i ≡ Some job
    → slice_get all i ≡ Some one → HasRun table puts gets job one
