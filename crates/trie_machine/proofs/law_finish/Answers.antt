use Rattle.trie_machine.proofs.Writers.{finishes}
use Rattle.trie_machine.proofs.law_finish.Goals as goal

pub returns : goal.returns
returns c = finishes
