use Rattle.std.proofs.Common.{◌≡◌, ◌≤◌, ◌++◌, length, map}
use Rattle.std.specs.List.{AllByRecursion}
use Rattle.page_packer.specs.Layout.{seen_from}
use Rattle.page_packer.proofs.work.see.Given as goal

abbrev pub invariant-children : goal.invariant-children
invariant-children l = record {
  before : AllByRecursion (λ s. s.position ≤ l.at) l.rest;
  seen : l.seen.items ++ map (seen_from l.at) l.rest ≡ map (seen_from l.at) l.stood;
}

abbrev pub decreases-children : goal.decreases-children
decreases-children l = length l.rest
