use Rattle.trie_machine.proofs.Writers.{prepares}
use Rattle.trie_machine.proofs.law_prepare.Goals as goal

pub returns : goal.returns
returns c = prepares
