use Rattle.trie_image.proofs.PublicLaws.{law_next_store}
use Rattle.trie_image.proofs.law_next_store.Goals as goal

pub returns : goal.returns
returns c = law_next_store
