use Rattle.std.proofs.Common.{[], take}
use Rattle.shard_table.specs.Seats.{AreWorkers}
use Rattle.script_text.specs.Script.{puts_of}
use Rattle.script_run.specs.Steps.{HaveMadePuts}
use Rattle.script_run.proofs.fill.fill_shard.Given as goal

abbrev pub invariant-batches : goal.invariant-batches
invariant-batches l = record {
  workers : AreWorkers l.table-inside.shards.items l.workers;
  made : HaveMadePuts l.cells [] (puts_of (take l.batch-index l.batches)) l.workers;
}
