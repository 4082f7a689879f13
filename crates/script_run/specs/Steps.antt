-- How far a script has come at the end of a batch. This project's own.
use Rattle.std.specs.Prelude.{◌≡◌, ◌≤◌, ◌+◌, ℕ, List, ◌∷◌, ◌++◌, length, slice_get, Some}
use Rattle.key_types.specs.Columns.{Columns}
use Rattle.trie_rule.specs.declared.views.WriteView.{WriteView}
use Rattle.trie_rule.specs.Rule.{opening_write_view}
use Rattle.trie_writer.specs.Written.{LacksRoom}
use Rattle.trie_rule.specs.Seats.{WriterAt}
use Rattle.shard_table.specs.declared.workers.Workers.{Workers}
use Rattle.shard_table.specs.Seats.{AreWorkers, HaveCells, TableAt}
use Rattle.load_work.specs.Work.{HaveLearnt}
use Rattle.load_work.specs.declared.work.LoadError.{LoadError}
use Rattle.load_work.specs.declared.work.LoadError.TheVariants as load_error
use Rattle.script_text.specs.Puts.{Put, Batch}
use Rattle.script_run.specs.declared.run.RunError.{RunError}
use Rattle.script_run.specs.declared.run.RunError.TheVariants as run_error
use Rattle.script_run.specs.Legal.{AreLines, NumbersRise, shard_puts}
use Rattle.script_run.specs.Runs.{IsFullAt, MakesPuts}

-- each shard's writer has made those of the puts that go to it, and no others, from its first view on
abbrev pub HaveMadePuts : ℕ → List (List ℕ) → List Put → Workers → Type 0
HaveMadePuts cells bounds puts w = (i : ℕ) (s : WriterAt) → slice_get w.writers.items i ≡ Some s
    → MakesPuts (opening_write_view cells) (shard_puts bounds i puts) s.knows

-- so many cells each, and one shard more than bounds
pub record HasShards (cells : ℕ) (table : TableAt) : Type 0 where
  pub count : length table.shards ≡ length table.bounds + 1
  pub sized : HaveCells cells table.shards

-- the workers between two batches: these puts have been made, and every reader knows them
pub record StandAfter (cells : ℕ) (table : TableAt) (puts : List Put) (w : Workers) : Type 0 where
  pub shards : HasShards cells table
  pub workers : AreWorkers table.shards w
  pub learnt : HaveLearnt w
  pub made : HaveMadePuts cells table.bounds puts w

-- the text of a batch that stands behind some puts: a line for each of its gets, with numbers that don't fall
abbrev pub IsBatchText : Columns → List (List ℕ) → List Put → Batch → List ℕ → Type 0
IsBatchText columns bounds before batch text = (numbers : List ℕ)
    × AreLines columns bounds before (before ++ batch.puts) batch.gets numbers text
    × NumbersRise columns bounds batch.gets numbers

-- of a batch that stands behind some puts, this line is the least for which a shard has no room
pub record IsLeastFull (cells : ℕ) (bounds : List (List ℕ)) (before puts : List Put) (line : ℕ) : Type 0 where
  pub shard : ℕ
  pub full : IsFullAt cells bounds before puts shard line
  pub least : (other at : ℕ) → IsFullAt cells bounds before puts other at → line ≤ at

-- what ends a batch ends the script
abbrev pub run_error_of : LoadError → RunError
run_error_of (load_error.Full line) = run_error.Full line
run_error_of load_error.NoMemory = run_error.NoMemory

-- from a writer's view on, the puts before the one of this line are made, and for this one there is no room
pub record StopsBefore (w : WriteView) (puts : List Put) (line : ℕ) : Type 0 where
  pub made : List Put
  pub put : Put
  pub left : List Put
  pub parts : puts ≡ made ++ put ∷ left
  pub view : WriteView
  pub makes : MakesPuts w made view
  pub full : LacksRoom view (put.partition ++ put.clustering) put.value
  pub is : line ≡ put.line
