use Rattle.std.proofs.Common.{◌≡◌, true}
use Rattle.bti_nodes.specs.Grammar.{each_below, points_back, distance_at}
use Rattle.bti_nodes.proofs.parse.points_back.Given as goal

abbrev pub invariant-loop-i : goal.invariant-loop-i
invariant-loop-i l = each_below l.i (λ i. points_back l.kind.shape l.places l.position i (distance_at l.kind.shape l.kind.width l.places l.bytes i)) ≡ true
