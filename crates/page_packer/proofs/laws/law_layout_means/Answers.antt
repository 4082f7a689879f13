use Rattle.page_packer.proofs.Meaning.{layout_means}
use Rattle.page_packer.proofs.laws.law_layout_means.Goals as goal

pub returns : goal.returns
returns c = layout_means
