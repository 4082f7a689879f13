use Rattle.std.proofs.Common.{ℕ, ◌<◌, ◌≤◌}
use Rattle.shard_table.specs.Shards.{AboveLast}
use Rattle.shard_table.proofs.bounds.first_unordered.Given as goal

abbrev pub invariant-loop-i : goal.invariant-loop-i
invariant-loop-i l = (j : ℕ) → 1 ≤ j → j < l.i → AboveLast l.bounds j
