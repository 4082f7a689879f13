use Rattle.trie_image.proofs.Opening.{opening}
use Rattle.trie_image.proofs.law_opening.Goals as goal

pub returns : goal.returns
returns c = opening
