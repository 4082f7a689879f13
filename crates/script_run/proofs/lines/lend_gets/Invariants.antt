use Rattle.std.proofs.Common.{take}
use Rattle.shard_table.specs.Seats.{AreEach}
use Rattle.script_text.specs.Pieces.{LendsGet}
use Rattle.script_run.proofs.lines.lend_gets.Given as goal

abbrev pub invariant-gets : goal.invariant-gets
invariant-gets l = AreEach LendsGet l.gets.items (take l.i l.batch.gets)
