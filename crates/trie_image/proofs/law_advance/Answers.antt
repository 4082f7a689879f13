use Rattle.trie_image.proofs.Advances.{advances}
use Rattle.trie_image.proofs.law_advance.Goals as goal

pub returns : goal.returns
returns c = advances
