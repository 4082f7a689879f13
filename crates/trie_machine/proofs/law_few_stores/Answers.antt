use Rattle.trie_machine.proofs.Standing.{few_stores}
use Rattle.trie_machine.proofs.law_few_stores.Goals as goal

pub returns : goal.returns
returns c = few_stores
