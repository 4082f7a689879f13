use Rattle.page_packer.proofs.Early.{laid_in_parts}
use Rattle.page_packer.proofs.laws.law_parts.Goals as goal

pub returns : goal.returns
returns c = laid_in_parts
