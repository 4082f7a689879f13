use Rattle.trie_machine.proofs.Writers.{begins}
use Rattle.trie_machine.proofs.law_begin.Goals as goal

pub returns : goal.returns
returns c = begins
