use Rattle.page_packer.proofs.Early.{packing_ends}
use Rattle.page_packer.proofs.laws.law_packing_ends.Goals as goal

pub returns : goal.returns
returns c = packing_ends
