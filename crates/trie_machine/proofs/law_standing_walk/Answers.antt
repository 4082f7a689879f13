use Rattle.trie_machine.proofs.Standing.{standing_walk}
use Rattle.trie_machine.proofs.law_standing_walk.Goals as goal

pub returns : goal.returns
returns c = standing_walk
