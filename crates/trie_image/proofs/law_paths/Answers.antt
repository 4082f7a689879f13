use Rattle.trie_image.proofs.Owners.{path_once}
use Rattle.trie_image.proofs.law_paths.Goals as goal

pub returns : goal.returns
returns c = path_once
