use Rattle.trie_image.proofs.Inside.{place_inside}
use Rattle.trie_image.proofs.law_inside.Goals as goal

pub returns : goal.returns
returns c = place_inside
