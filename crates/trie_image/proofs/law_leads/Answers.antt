use Rattle.trie_image.proofs.PublicLaws.{law_leads}
use Rattle.trie_image.proofs.law_leads.Goals as goal

pub returns : goal.returns
returns c = law_leads
