use Rattle.bti_nodes.proofs.Sizes.{size_some, size_within}
use Rattle.bti_nodes.proofs.laws.law_bounds.Goals as goal

pub returns : goal.returns
returns c p = (size_some p, size_within p)
