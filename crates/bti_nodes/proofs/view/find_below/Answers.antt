use Rattle.std.proofs.Common.{◌∙◌}
use Rattle.bti_nodes.proofs.Sides.{greatest_below}
use Rattle.bti_nodes.proofs.view.find_below.Goals as goal

pub returns : goal.returns
returns c =
    c.last_before.ensures ∙ greatest_below c.args.kind c.args.places c.count_below.result c.args.byte c.args.bytes.now c.count_below.ensures.within c.count_below.ensures.less c.count_below.ensures.others
