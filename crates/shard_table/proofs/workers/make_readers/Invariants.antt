use Rattle.std.proofs.Common.{◌≡◌, vec_len}
use Rattle.std.specs.List.{All}
use Rattle.shard_table.specs.Seats.{AreEach, IsNewReader}
use Rattle.shard_table.proofs.workers.make_readers.Given as goal

abbrev pub invariant-loop : goal.invariant-loop
invariant-loop l = record {
  same : l.writers ≡ l.fn.writers;
  count : vec_len l.made ≡ l.counter;
  each : All (λ seats. AreEach IsNewReader l.shards seats.items) l.made.items;
}
