use Rattle.page_packer.specs.Tree.{tree_of}
use Rattle.page_packer.proofs.Grown.{sound_tree}
use Rattle.page_packer.proofs.Pages.{nodes_in_pages}
use Rattle.page_packer.proofs.laws.law_page_node.Goals as goal

pub returns : goal.returns
returns c es p entries = nodes_in_pages (tree_of es) p (sound_tree es entries)
