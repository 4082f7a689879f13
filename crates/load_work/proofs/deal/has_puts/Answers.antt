use Rattle.std.proofs.Common.{◌∙◌, arith}
use Rattle.load_work.proofs.Dealing.{other_shard}
use Rattle.load_work.proofs.deal.has_puts.Goals as goal

pub puts-preserved : goal.puts-preserved
puts-preserved c = other_shard c.args.table.now.bounds c.args.puts.now c.puts.put-index c.args.shard c.shard_of.result _ (omega arith) c.shard_of.ensures.is c.if-shard_of-shard.false ∙ c.puts.invariant
