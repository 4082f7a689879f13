use Rattle.std.proofs.Common.{◌≡◌, ◌++◌}
use Rattle.trie_image.specs.Body.{mid_words}
use Rattle.trie_image.proofs.split_node.push_mids.Given as goal

abbrev pub invariant-mids : goal.invariant-mids
invariant-mids l = l.out ≡ l.fn.out ++ mid_words l.bytes l.top l.index
