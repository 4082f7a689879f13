use Rattle.std.proofs.Common.{◌≡◌}
use Rattle.shard_table.proofs.tests.check_list.Given as goal

abbrev pub invariant-loop-pair : goal.invariant-loop-pair
invariant-loop-pair g l = l.cursor.frozen ≡ l.frozen
