use Rattle.std.proofs.Common.{◌≡◌, ◌++◌}
use Rattle.trie_image.specs.Body.{leaf_words}
use Rattle.trie_image.proofs.split_node.push_leaves.Given as goal

abbrev pub invariant-leaves : goal.invariant-leaves
invariant-leaves g l = record {
  made : l.out ≡ l.fn.out ++ leaf_words (g.W.WordSource.image l.from l.fn.seat) l.node l.byte l.entry l.bytes l.group;
  same : l.seat ≡ l.fn.seat;
}
