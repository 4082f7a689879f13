use Rattle.trie_image.proofs.PublicLaws.{law_record_word}
use Rattle.trie_image.proofs.law_record_word.Goals as goal

pub returns : goal.returns
returns c = law_record_word
