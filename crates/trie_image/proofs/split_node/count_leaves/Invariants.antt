use Rattle.std.proofs.Common.{◌≡◌, ◌≤◌}
use Rattle.trie_image.specs.Body.{leaves_below}
use Rattle.trie_image.proofs.split_node.count_leaves.Given as goal

abbrev pub invariant-leaves : goal.invariant-leaves
invariant-leaves l = (l.count ≡ leaves_below l.bytes l.g) × (l.count ≤ l.g)
