use Rattle.std.proofs.Common.{◌≤◌, ◌-◌, length}
use Rattle.outside.proofs.folder_store.fill.Given as goal

abbrev pub invariant-fills : goal.invariant-fills
invariant-fills g l = l.filled ≤ length l.into

abbrev pub decreases-fills : goal.decreases-fills
decreases-fills g l = length l.into - l.filled
