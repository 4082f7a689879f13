use Rattle.std.proofs.Common.{take}
use Rattle.shard_table.specs.Seats.{AreEach}
use Rattle.script_text.specs.Pieces.{LendsPut}
use Rattle.script_run.proofs.lines.lend_puts.Given as goal

abbrev pub invariant-puts : goal.invariant-puts
invariant-puts l = AreEach LendsPut l.puts.items (take l.i l.batch.puts)
