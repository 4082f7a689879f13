use Rattle.std.proofs.Common.{◌*◌, refl, sym, ap, ◌∙◌}
use Rattle.cell_layout.specs.Cells.{eight}
use Rattle.trie_image.specs.Body.{leaf_field}
use Rattle.trie_image.proofs.BodyLemmas.{leaf_words_none}
use Rattle.trie_image.proofs.SplitNodeLengths.{leaf_room, leaf_made, leaf_none}
use Rattle.trie_image.proofs.split_node.push_leaves.Goals as goal
use Rattle.trie_image.proofs.split_node.push_leaves.Goals.{then-leaf_there, else-leaf_there}

pub leaves-init : goal.leaves-init
leaves-init g c = record { made = leaf_words_none c.args.out.now (g.W.WordSource.image c.args.from.now c.args.seat.now) c.args.node c.args.byte c.args.entry c.args.bytes.now; same = refl }

pub push_cell-requires : goal.push_cell-requires
push_cell-requires g c = leaf_room (g.W.WordSource.image c.args.from.now c.args.seat.now) c.args.node c.args.byte c.args.entry c.args.bytes.now c.leaves.out c.args.out.now c.leaves.group c.leaves.invariant.made c.requires.capacity c.requires.seven (sym c.if-leaf_there.true ∙ c.leaf_there.ensures)

pub leaves-preserved : goal.leaves-preserved
leaves-preserved g c = elim c.if-leaf_there.branch [
  | then-leaf_there w ↦ record {
    made = leaf_made (g.W.WordSource.image c.args.from.now c.args.seat.now) c.args.node c.args.byte c.args.entry c.args.bytes.now c.leaves.out c.args.out.now c.leaves.group c.leaves.invariant.made c.if-leaf_there.out w.leaf_cell-cell.result (w.out-is ∙ w.push_cell.ensures)
        (w.leaf_cell-cell.ensures.cell ∙ ap (λ s. eight (leaf_field (g.W.WordSource.image c.args.from.now s) c.args.node c.args.byte c.args.entry) (8 * c.leaves.group)) c.leaves.invariant.same) (sym w.if-leaf_there.true ∙ c.leaf_there.ensures);
    same = w.seat-is ∙ (w.leaf_cell-cell.ensures.same ∙ c.leaves.invariant.same);
  }
  | else-leaf_there w ↦ record {
    made = leaf_none (g.W.WordSource.image c.args.from.now c.args.seat.now) c.args.node c.args.byte c.args.entry c.args.bytes.now c.leaves.out c.args.out.now c.leaves.group c.leaves.invariant.made c.if-leaf_there.out w.out-is (sym w.if-leaf_there.false ∙ c.leaf_there.ensures);
    same = w.seat-is ∙ c.leaves.invariant.same;
  }
]
