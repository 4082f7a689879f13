use Rattle.bti_nodes.proofs.Sizes.{size_is_length}
use Rattle.bti_nodes.proofs.laws.law_size.Goals as goal

pub returns : goal.returns
returns c = size_is_length
