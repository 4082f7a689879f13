use Rattle.trie_machine.proofs.Readers.{splits_writer}
use Rattle.trie_machine.proofs.law_split_writer.Goals as goal

pub returns : goal.returns
returns c = splits_writer
