use Rattle.trie_machine.proofs.FreshLemmas.{longer_answer}
use Rattle.trie_machine.proofs.law_longer_answer.Goals as goal

pub returns : goal.returns
returns c = longer_answer
