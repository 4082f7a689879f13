use Rattle.partition_index.proofs.Places.{root_in_trie}
use Rattle.partition_index.proofs.laws.law_root_in_trie.Goals as goal

pub returns : goal.returns
returns c = root_in_trie
