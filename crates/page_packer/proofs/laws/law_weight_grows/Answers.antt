use Rattle.page_packer.proofs.Heavier.{list_heavier}
use Rattle.page_packer.proofs.laws.law_weight_grows.Goals as goal

pub returns : goal.returns
returns c = list_heavier
