use Rattle.cell_layout.proofs.Ordered.{ordered}
use Rattle.cell_layout.proofs.law_ordered.Goals as goal

pub returns : goal.returns
returns c = ordered
