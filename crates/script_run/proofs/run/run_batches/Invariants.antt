use Rattle.std.proofs.Common.{◌≡◌, ◌≤◌, ℕ, [], take, vec_len}
use Rattle.outside.specs.Told.{WhereTold}
use Rattle.key_types.specs.Columns.{columns_of}
use Rattle.script_text.specs.Script.{puts_of}
use Rattle.script_run.specs.Steps.{StandAfter}
use Rattle.script_run.proofs.Told.{Adds}
use Rattle.script_run.proofs.run.run_batches.Given as goal

abbrev pub invariant-batches : goal.invariant-batches
invariant-batches g l = record {
  stand : (cells : ℕ) → StandAfter cells l.table [] l.fn.workers → StandAfter cells l.table (puts_of (take l.batch-index l.batches)) l.workers;
  count : vec_len l.workers.readers ≡ vec_len l.fn.workers.readers;
  written : WhereTold (g.O.Sink.written l.fn.out) (g.O.Sink.written l.out) (Adds (columns_of l.schema) l.table.bounds (take l.batch-index l.batches));
  later : g.O.Sink.faults l.fn.out ≤ g.O.Sink.faults l.out;
}
