use Rattle.page_packer.proofs.Pages.{subtrees_in_pages}
use Rattle.page_packer.proofs.laws.law_page_subtree.Goals as goal

pub returns : goal.returns
returns c = subtrees_in_pages
