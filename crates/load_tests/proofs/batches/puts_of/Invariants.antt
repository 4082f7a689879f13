use Rattle.std.proofs.Common.{All}
use Rattle.load_work.specs.Puts.{IsPut}
use Rattle.load_tests.proofs.batches.puts_of.Given as goal

abbrev pub invariant-rows : goal.invariant-rows
invariant-rows g l = All IsPut l.puts.items
