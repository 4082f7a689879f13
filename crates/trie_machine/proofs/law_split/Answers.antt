use Rattle.trie_machine.proofs.Readers.{splits}
use Rattle.trie_machine.proofs.law_split.Goals as goal

pub returns : goal.returns
returns c = splits
