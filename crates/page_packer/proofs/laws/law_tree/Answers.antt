use Rattle.page_packer.proofs.Grown.{same_entries}
use Rattle.page_packer.proofs.laws.law_tree.Goals as goal

pub returns : goal.returns
returns c = same_entries
