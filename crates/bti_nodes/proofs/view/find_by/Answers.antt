use Rattle.std.proofs.Common.{◌∙◌}
use Rattle.bti_nodes.proofs.Found.{none_found, one_found}
use Rattle.bti_nodes.proofs.view.find_by.Goals as goal

pub returns-in-None : goal.returns-in-None
returns-in-None c = none_found c.args.kind c.args.places c.args.byte c.args.bytes.now c.in-None.ensures

pub returns-in-Some : goal.returns-in-Some
returns-in-Some c = c.child_at.ensures ∙ one_found c.args.kind c.args.places c.args.byte c.in-Some.place c.args.bytes.now c.requires c.in-Some.ensures.0 c.in-Some.ensures.1
