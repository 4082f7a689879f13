use Rattle.std.proofs.Common.{◌≡◌, ◌≤◌, length, take, ◌-◌}
use Rattle.byte_order.proofs.shortest.shared_len.Given as goal

abbrev pub invariant-bytes : goal.invariant-bytes
invariant-bytes l = (take l.at l.fn.a ≡ take l.at l.fn.b) × (l.at ≤ length l.fn.a) × (l.at ≤ length l.fn.b)

abbrev pub decreases-bytes : goal.decreases-bytes
decreases-bytes l = length l.fn.a - l.at
