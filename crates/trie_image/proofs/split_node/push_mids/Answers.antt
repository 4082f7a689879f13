use Rattle.std.proofs.Common.{◌+◌, ◌*◌, ◌++◌, List, ℕ, true, false, sym, ap, ◌∙◌}
use Rattle.cell_layout.specs.Cells.{eight}
use Rattle.trie_image.specs.Body.{mid_field, mid_words}
use Rattle.trie_image.proofs.BodyLemmas.{mid_words_more, mid_words_none, cell_there, cell_absent}
use Rattle.trie_image.proofs.SplitNodeLengths.{mid_room}
use Rattle.trie_image.proofs.split_node.push_mids.Goals as goal
use Rattle.trie_image.proofs.split_node.push_mids.Goals.{then-mid_there, else-mid_there}

pub mids-init : goal.mids-init
mids-init c = mid_words_none c.args.out.now c.args.bytes.now c.args.top

pub push_cell-requires : goal.push_cell-requires
push_cell-requires c = mid_room c.args.bytes.now c.mids.out c.args.out.now c.args.top c.mids.index c.mids.invariant c.requires.capacity c.requires.seven (sym c.if-mid_there.true ∙ c.mid_there.ensures)

pub mids-preserved : goal.mids-preserved
mids-preserved c = elim c.if-mid_there.branch [
  | then-mid_there w ↦ cell_there c.if-mid_there.out c.mids.out c.args.out.now (mid_words c.args.bytes.now c.args.top c.mids.index) (eight (mid_field c.args.bytes.now c.args.top) (8 * c.mids.index)) (mid_words c.args.bytes.now c.args.top (c.mids.index + 1))
      (w.out-is ∙ (w.push_cell.ensures ∙ ap (λ (x : List ℕ). c.mids.out ++ x) w.mid_cell.ensures)) c.mids.invariant (mid_words_more c.args.bytes.now c.args.top c.mids.index true (sym w.if-mid_there.true ∙ c.mid_there.ensures))
  | else-mid_there w ↦ w.out-is ∙ cell_absent c.mids.out c.args.out.now (mid_words c.args.bytes.now c.args.top c.mids.index) (mid_words c.args.bytes.now c.args.top (c.mids.index + 1)) c.mids.invariant (mid_words_more c.args.bytes.now c.args.top c.mids.index false (sym w.if-mid_there.false ∙ c.mid_there.ensures))
]
