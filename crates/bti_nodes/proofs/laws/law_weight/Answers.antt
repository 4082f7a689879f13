use Rattle.bti_nodes.proofs.Choice.{weight_bounds}
use Rattle.bti_nodes.proofs.laws.law_weight.Goals as goal

pub returns : goal.returns
returns c = weight_bounds
