use Rattle.shard_table.proofs.Together.{shards_list}
use Rattle.shard_table.proofs.law_shards_list.Goals as goal

pub returns : goal.returns
returns c = shards_list
