use Rattle.data_walk.proofs.Passing.{passes_partition}
use Rattle.data_walk.proofs.laws.law_passed.Goals as goal

pub returns : goal.returns
returns c = passes_partition
