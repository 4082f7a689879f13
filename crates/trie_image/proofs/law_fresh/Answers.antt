use Rattle.trie_image.proofs.Kept.{fresh}
use Rattle.trie_image.proofs.law_fresh.Goals as goal

pub returns : goal.returns
returns c = fresh
