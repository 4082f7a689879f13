use Rattle.shard_freeze.proofs.Lists.{lists}
use Rattle.shard_freeze.proofs.law_lists.Goals as goal

pub returns : goal.returns
returns c = lists
