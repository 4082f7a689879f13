use Rattle.std.proofs.Common.{◌≡◌, vec_len}
use Rattle.shard_table.specs.Seats.{AreEach, HaveCells, IsNewWriter}
use Rattle.shard_table.proofs.workers.make_shards.Given as goal

abbrev pub invariant-loop : goal.invariant-loop
invariant-loop l = record {
  each : AreEach IsNewWriter l.shards.items l.writers.items;
  cells : HaveCells l.cells l.shards.items;
  count : vec_len l.shards ≡ l.counter;
}
