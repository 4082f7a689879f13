use Rattle.std.proofs.Common.{◌≡◌, ◌+◌, length, subst, arith}
use Rattle.shard_table.specs.Shards.{BoundsAscend}
use Rattle.shard_table.specs.Seats.{TableAt, IsFreeWriter, IsClosed}
use Rattle.shard_table.proofs.Each.{each_length}
use Rattle.shard_table.proofs.Between.{shards_ascend}
use Rattle.shard_table.proofs.table.ShardTable.close.Goals as goal

pub returns-clause-ascend : goal.returns-clause-ascend
returns-clause-ascend c lie =
    let table = c.args.self in let frozen = c.in_ok-frozen.frozen in
    let up : BoundsAscend table.bounds = subst (λ (t : TableAt). BoundsAscend t.bounds) c.self.view_is c.self.invariant.1 in
    let some : length table.shards ≡ length table.bounds + 1 = subst (λ (t : TableAt). length t.shards ≡ length t.bounds + 1) c.self.view_is (omega (arith, c.self.invariant.0, c.self.inside.shards.ok)) in
    let one = each_length IsFreeWriter table.shards c.args.workers.writers.items c.requires.writing in
    let other = each_length IsClosed c.args.workers.writers.items frozen.items c.in_ok-frozen.ensures in
    shards_ascend table.bounds frozen.items up (omega (arith, some, one, other)) lie
