use Rattle.std.proofs.Common.{arith}
use Rattle.bti_nodes.proofs.Rows.{lined}
use Rattle.bti_nodes.proofs.encode.line_up.Goals as goal

pub returns : goal.returns
returns c = lined c.args.children.now c.loop-i.row (omega arith) (λ k l. c.loop-i.invariant.written k (omega arith))
