use Rattle.bti_nodes.proofs.Choice.{fits_chosen}
use Rattle.bti_nodes.proofs.encode.put_node.Goals as goal

pub put_body-requires-clause-fits : goal.put_body-requires-clause-fits
put_body-requires-clause-fits c =
    rw (c.kind_by.ensures.kind, c.choose-number.ensures.value, c.outline_of-o.ensures) (fits_chosen _ c.args.children.now c.requires.near)
