use Rattle.page_packer.proofs.Edges.{edge_closes}
use Rattle.page_packer.proofs.laws.law_edge.Goals as goal

pub returns : goal.returns
returns c = edge_closes
