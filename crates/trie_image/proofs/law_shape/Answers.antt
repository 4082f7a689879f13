use Rattle.trie_image.proofs.StoreShape.{shape}
use Rattle.trie_image.proofs.law_shape.Goals as goal

pub returns : goal.returns
returns c = shape
