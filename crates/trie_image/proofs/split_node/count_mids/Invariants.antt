use Rattle.std.proofs.Common.{◌≡◌, ◌≤◌}
use Rattle.trie_image.specs.Body.{mids_below}
use Rattle.trie_image.proofs.split_node.count_mids.Given as goal

abbrev pub invariant-mids : goal.invariant-mids
invariant-mids l = (l.count ≡ mids_below l.bytes l.i) × (l.count ≤ l.i)
