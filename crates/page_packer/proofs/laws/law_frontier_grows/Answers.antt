use Rattle.page_packer.proofs.Edges.{frontier_grows}
use Rattle.page_packer.proofs.laws.law_frontier_grows.Goals as goal

pub returns : goal.returns
returns c = frontier_grows
