use Rattle.std.proofs.Common.{arith, true, false, ◌∙◌, sym}
use Rattle.trie_image.proofs.BodyLemmas.{mids_more, mids_none}
use Rattle.trie_image.proofs.split_node.count_mids.Goals as goal
use Rattle.trie_image.proofs.split_node.count_mids.Goals.{then-mid_there, else-mid_there}

pub mids-preserved : goal.mids-preserved
mids-preserved c = elim c.if-mid_there.branch [
  | then-mid_there w ↦ (omega (arith, w.count-is, c.mids.invariant.0, mids_more c.args.bytes.now c.mids.i true (sym w.if-mid_there.true ∙ c.mid_there.ensures)), omega (arith, w.count-is, c.mids.invariant.1))
  | else-mid_there w ↦ (omega (arith, w.count-is, c.mids.invariant.0, mids_more c.args.bytes.now c.mids.i false (sym w.if-mid_there.false ∙ c.mid_there.ensures)), omega (arith, w.count-is, c.mids.invariant.1))
]

pub mids-init : goal.mids-init
mids-init c = (mids_none c.args.bytes.now, omega arith)
