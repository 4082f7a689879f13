use Rattle.trie_machine.proofs.Readers.{looks}
use Rattle.trie_machine.proofs.law_look.Goals as goal

pub returns : goal.returns
returns c = looks
