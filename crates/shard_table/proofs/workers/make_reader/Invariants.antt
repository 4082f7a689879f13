use Rattle.std.proofs.Common.{◌≡◌, take}
use Rattle.shard_table.specs.Seats.{AreEach, IsNewReader}
use Rattle.shard_table.proofs.workers.make_reader.Given as goal

abbrev pub invariant-loop-i : goal.invariant-loop-i
invariant-loop-i l = record {
  same : l.writers ≡ l.fn.writers;
  each : AreEach IsNewReader (take l.i l.shards) l.seats.items;
}
