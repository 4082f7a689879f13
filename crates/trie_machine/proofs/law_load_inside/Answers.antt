use Rattle.trie_machine.proofs.Readers.{load_inside}
use Rattle.trie_machine.proofs.law_load_inside.Goals as goal

pub returns : goal.returns
returns c = load_inside
