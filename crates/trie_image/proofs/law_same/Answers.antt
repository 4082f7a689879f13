use Rattle.trie_image.proofs.WellFormedLemmas.{keeps_well_formed}
use Rattle.trie_image.proofs.law_same.Goals as goal

pub returns : goal.returns
returns c = keeps_well_formed
