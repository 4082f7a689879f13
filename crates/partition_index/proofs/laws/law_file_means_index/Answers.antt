use Rattle.partition_index.proofs.Settled.{file_means_index}
use Rattle.partition_index.proofs.laws.law_file_means_index.Goals as goal

pub returns : goal.returns
returns c = file_means_index
