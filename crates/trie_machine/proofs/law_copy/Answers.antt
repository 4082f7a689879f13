use Rattle.trie_machine.proofs.Readers.{copies}
use Rattle.trie_machine.proofs.law_copy.Goals as goal

pub returns : goal.returns
returns c = copies
