use Rattle.std.proofs.Common.{sym, ◌∙◌, ap, length}
use Rattle.std.proofs.lemmas.List.FromFn.{length-map-range_with_len}
use Rattle.bti_nodes.specs.Grammar.{Node, node_by, child_by}
use Rattle.bti_nodes.proofs.view.NodeView.places.Goals as goal

pub returns : goal.returns
unfolding node_by
returns c =
    let v = c.self.inside in
    sym (length-map-range_with_len (child_by v.kind v.places v.bytes.now) 0 v.places) ∙ ap (λ (n : Node). length n.places) c.self.view_is
