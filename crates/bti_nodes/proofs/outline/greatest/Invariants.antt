use Rattle.std.proofs.Common.{◌≡◌, length}
use Rattle.std.specs.Prelude.{max}
use Rattle.bti_nodes.specs.Spelling.{greatest}
use Rattle.bti_nodes.proofs.outline.greatest.Given as goal

abbrev pub invariant-children : goal.invariant-children
invariant-children l = max l.most (greatest l.rest) ≡ greatest l.children

abbrev pub decreases-children : goal.decreases-children
decreases-children l = length l.rest
