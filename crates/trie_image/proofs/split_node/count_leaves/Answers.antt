use Rattle.std.proofs.Common.{arith, true, false, ◌∙◌, sym}
use Rattle.trie_image.proofs.BodyLemmas.{leaves_more, leaves_none}
use Rattle.trie_image.proofs.split_node.count_leaves.Goals as goal
use Rattle.trie_image.proofs.split_node.count_leaves.Goals.{then-leaf_there, else-leaf_there}

pub leaves-preserved : goal.leaves-preserved
leaves-preserved c = elim c.if-leaf_there.branch [
  | then-leaf_there w ↦ (omega (arith, w.count-is, c.leaves.invariant.0, leaves_more c.args.bytes.now c.leaves.g true (sym w.if-leaf_there.true ∙ c.leaf_there.ensures)), omega (arith, w.count-is, c.leaves.invariant.1))
  | else-leaf_there w ↦ (omega (arith, w.count-is, c.leaves.invariant.0, leaves_more c.args.bytes.now c.leaves.g false (sym w.if-leaf_there.false ∙ c.leaf_there.ensures)), omega (arith, w.count-is, c.leaves.invariant.1))
]

pub leaves-init : goal.leaves-init
leaves-init c = (leaves_none c.args.bytes.now, omega arith)
