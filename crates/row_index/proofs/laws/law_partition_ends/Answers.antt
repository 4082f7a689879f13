use Rattle.row_index.proofs.Growing.{partition_ends}
use Rattle.row_index.proofs.laws.law_partition_ends.Goals as goal

pub returns : goal.returns
returns c = partition_ends
