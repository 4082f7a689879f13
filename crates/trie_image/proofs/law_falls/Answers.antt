use Rattle.trie_image.proofs.Falls.{on_falls}
use Rattle.trie_image.proofs.law_falls.Goals as goal

pub returns : goal.returns
returns c = on_falls
