use Rattle.std.proofs.Common.{All}
use Rattle.load_work.specs.Work.{IsGetBelow}
use Rattle.load_tests.proofs.batches.gets_of.Given as goal

abbrev pub invariant-rows : goal.invariant-rows
invariant-rows g l = All (IsGetBelow l.readers) l.gets.items
