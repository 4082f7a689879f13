use Rattle.partition_index.proofs.Places.{index_is_short}
use Rattle.partition_index.proofs.laws.law_index_is_short.Goals as goal

pub returns : goal.returns
returns c = index_is_short
