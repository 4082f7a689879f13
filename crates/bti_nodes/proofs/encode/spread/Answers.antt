use Rattle.std.proofs.Common.{arith}
use Rattle.bti_nodes.specs.Spelling.{distance_under}
use Rattle.bti_nodes.proofs.Rows.{filled}
use Rattle.bti_nodes.proofs.encode.spread.Goals as goal

pub returns : goal.returns
returns c =
    filled (distance_under c.args.children.now) c.args.first c.args.places c.loop-i.row (omega arith) (λ k l. c.loop-i.invariant.written k (omega arith))
