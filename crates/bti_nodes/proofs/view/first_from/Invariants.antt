use Rattle.std.proofs.Common.{◌≡◌, ◌-◌, map}
use Rattle.std.specs.List.{range_with_len}
use Rattle.bti_nodes.specs.Grammar.{child_by}
use Rattle.bti_nodes.specs.Children.{first_child, any}
use Rattle.bti_nodes.proofs.view.first_from.Given as goal

abbrev pub invariant-loop-i : goal.invariant-loop-i
invariant-loop-i l =
    first_child any (map (child_by l.kind l.places l.bytes) (range_with_len l.i (l.places - l.i))) ≡ first_child any (map (child_by l.kind l.places l.bytes) (range_with_len l.from (l.places - l.from)))
