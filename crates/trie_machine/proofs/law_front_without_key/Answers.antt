use Rattle.trie_machine.proofs.Readers.{fronts_without_key}
use Rattle.trie_machine.proofs.law_front_without_key.Goals as goal

pub returns : goal.returns
returns c = fronts_without_key
