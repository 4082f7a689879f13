use Rattle.std.proofs.Common.{◌∙◌}
use Rattle.bti_nodes.proofs.Sides.{least_above}
use Rattle.bti_nodes.proofs.view.find_above.Goals as goal

pub returns : goal.returns
returns c =
    c.first_from.ensures ∙ least_above c.args.kind c.args.places c.count_to.result c.args.byte c.args.bytes.now c.count_to.ensures.within c.count_to.ensures.others c.count_to.ensures.greater
