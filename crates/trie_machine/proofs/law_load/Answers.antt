use Rattle.trie_machine.proofs.Readers.{loads}
use Rattle.trie_machine.proofs.law_load.Goals as goal

pub returns : goal.returns
returns c = loads
