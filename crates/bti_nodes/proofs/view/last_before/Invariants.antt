use Rattle.std.proofs.Common.{◌≡◌, ◌≤◌, map}
use Rattle.std.specs.List.{range_with_len}
use Rattle.bti_nodes.specs.Grammar.{child_by}
use Rattle.bti_nodes.specs.Children.{last_child, any}
use Rattle.bti_nodes.proofs.view.last_before.Given as goal

abbrev pub invariant-places : goal.invariant-places
invariant-places l = record {
  within : l.count ≤ l.places;
  same : last_child any (map (child_by l.kind l.places l.bytes) (range_with_len 0 l.count)) ≡ last_child any (map (child_by l.kind l.places l.bytes) (range_with_len 0 l.end));
}

abbrev pub decreases-places : goal.decreases-places
decreases-places l = l.count
