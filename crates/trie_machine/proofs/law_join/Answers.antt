use Rattle.trie_machine.proofs.Readers.{joins}
use Rattle.trie_machine.proofs.law_join.Goals as goal

pub returns : goal.returns
returns c = joins
