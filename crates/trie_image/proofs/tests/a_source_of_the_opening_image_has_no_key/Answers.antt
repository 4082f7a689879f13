use Rattle.std.proofs.Common.{arith}
use Rattle.trie_image.specs.WellFormed.{opening_ledger}
use Rattle.trie_image.proofs.Opening.{opening}
use Rattle.trie_image.proofs.tests.a_source_of_the_opening_image_has_no_key.Goals as goal

pub find-requires-clause-image : goal.find-requires-clause-image
find-requires-clause-image g c = (opening_ledger, 4, opening 4 (omega arith) (omega arith))
