use Rattle.trie_image.proofs.BodyLengths.{at_most_cost}
use Rattle.trie_image.proofs.law_cost.Goals as goal

pub returns : goal.returns
returns c = at_most_cost
