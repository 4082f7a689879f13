use Rattle.page_packer.proofs.Early.{list_stands}
use Rattle.page_packer.proofs.laws.law_early.Goals as goal

pub returns : goal.returns
returns c = list_stands
