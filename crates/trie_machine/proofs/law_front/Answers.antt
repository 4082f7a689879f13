use Rattle.trie_machine.proofs.Readers.{fronts}
use Rattle.trie_machine.proofs.law_front.Goals as goal

pub returns : goal.returns
returns c = fronts
