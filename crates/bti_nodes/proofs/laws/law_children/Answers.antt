use Rattle.bti_nodes.proofs.Choice.{size_by_children}
use Rattle.bti_nodes.proofs.laws.law_children.Goals as goal

pub returns : goal.returns
returns c = size_by_children
