use Rattle.trie_machine.proofs.Writers.{publishes}
use Rattle.trie_machine.proofs.law_publish.Goals as goal

pub returns : goal.returns
returns c = publishes
