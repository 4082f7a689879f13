use Rattle.partition_check.proofs.Indexed.{checked_is_index, index_is_checked}
use Rattle.partition_check.proofs.laws.law_partitions.Goals as goal

pub returns-clause-checked : goal.returns-clause-checked
returns-clause-checked c = checked_is_index

pub returns-clause-index : goal.returns-clause-index
returns-clause-index c = index_is_checked
