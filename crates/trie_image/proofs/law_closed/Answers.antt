use Rattle.trie_image.proofs.Children.{closed}
use Rattle.trie_image.proofs.law_closed.Goals as goal

pub returns : goal.returns
returns c = λ w g cells ok. closed w g ok.each
