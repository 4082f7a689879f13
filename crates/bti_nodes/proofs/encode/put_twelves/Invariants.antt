use Rattle.std.proofs.Common.{◌≡◌, ◌<◌, ◌++◌, length, take}
use Rattle.std.specs.List.{AllByRecursion}
use Rattle.bti_nodes.specs.Spelling.{twelves}
use Rattle.bti_nodes.proofs.encode.put_twelves.Given as goal

abbrev pub invariant-pairs : goal.invariant-pairs
invariant-pairs l =
    record { kept : take (length l.fn.out) l.out ≡ l.fn.out; fit : AllByRecursion (λ d. d < 4096) l.rest; row : l.out ++ twelves l.rest ≡ l.fn.out ++ twelves l.ds }

abbrev pub decreases-pairs : goal.decreases-pairs
decreases-pairs l = length l.rest
