use Rattle.shard_table.proofs.Listed.{begins_shard}
use Rattle.shard_table.proofs.frozen.FrozenTable.cursor.Goals as goal

pub returns-clause-left : goal.returns-clause-left
returns-clause-left c = begins_shard c.args.self.now 0 c.shard.result.now c.in_ok-cursor.cursor c.shard.ensures c.in_ok-cursor.ensures.left
