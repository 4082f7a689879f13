use Rattle.trie_machine.proofs.Readers.{opens}
use Rattle.trie_machine.proofs.law_new.Goals as goal

pub returns : goal.returns
returns c = opens
