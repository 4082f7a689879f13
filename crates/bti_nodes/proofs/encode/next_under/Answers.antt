use Rattle.std.proofs.Common.{◌∙◌}
use Rattle.bti_nodes.proofs.Rows.{none_here}
use Rattle.bti_nodes.proofs.encode.next_under.Goals as goal

pub returns-else-from-byte-clause-distance : goal.returns-else-from-byte-clause-distance
returns-else-from-byte-clause-distance c =
    none_here c.args.byte c.args.children.now c.requires c.in-len1-up.len_at_least (λ e. c.if-from-byte.false (c.from.ensures ∙ e))
