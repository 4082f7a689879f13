use Rattle.partition_index.proofs.Settled.{index_ends}
use Rattle.partition_index.proofs.laws.law_index_ends.Goals as goal

pub returns : goal.returns
returns c = index_ends
