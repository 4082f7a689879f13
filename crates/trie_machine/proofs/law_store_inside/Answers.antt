use Rattle.trie_machine.proofs.Writers.{store_inside}
use Rattle.trie_machine.proofs.law_store_inside.Goals as goal

pub returns : goal.returns
returns c = store_inside
