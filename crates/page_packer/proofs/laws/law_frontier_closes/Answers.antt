use Rattle.page_packer.proofs.Edges.{frontier_closes}
use Rattle.page_packer.proofs.laws.law_frontier_closes.Goals as goal

pub returns : goal.returns
returns c = frontier_closes
