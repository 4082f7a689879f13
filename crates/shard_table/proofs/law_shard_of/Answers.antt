use Rattle.shard_table.proofs.Between.{shard_lies}
use Rattle.shard_table.proofs.law_shard_of.Goals as goal

pub returns : goal.returns
returns c = shard_lies
