use Rattle.page_packer.proofs.Length.{length_bound}
use Rattle.page_packer.proofs.laws.law_length.Goals as goal

pub returns : goal.returns
returns c = length_bound
