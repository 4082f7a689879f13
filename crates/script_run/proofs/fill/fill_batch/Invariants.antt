use Rattle.std.proofs.Common.{take}
use Rattle.trie_writer.specs.Written.{MayWrite}
use Rattle.script_run.specs.Runs.{MakesPuts}
use Rattle.script_run.proofs.fill.fill_batch.Given as goal

abbrev pub invariant-puts : goal.invariant-puts
invariant-puts l = record {
  may : MayWrite l.cells l.seat;
  made : MakesPuts l.fn.seat.knows (take l.i l.batch.puts) l.seat.knows;
}
