use Rattle.std.proofs.Common.{◌≡◌, length}
use Rattle.bti_nodes.specs.Grammar.{ascends}
use Rattle.bti_nodes.proofs.parse.ascends.Given as goal

abbrev pub invariant-pairs : goal.invariant-pairs
invariant-pairs l = ascends l.rest ≡ ascends l.bytes

abbrev pub decreases-pairs : goal.decreases-pairs
decreases-pairs l = length l.rest
