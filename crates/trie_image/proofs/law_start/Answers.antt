use Rattle.trie_image.proofs.PublicLaws.{law_start}
use Rattle.trie_image.proofs.law_start.Goals as goal

pub returns : goal.returns
returns c = law_start
