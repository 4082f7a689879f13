use Rattle.std.proofs.Common.{◌≡◌, ◌≤◌, length, take, ◌-◌}
use Rattle.byte_order.proofs.shortest.shared_words.Given as goal

abbrev pub invariant-words : goal.invariant-words
invariant-words l = (take l.at l.fn.a ≡ take l.at l.fn.b) × (l.at ≤ length l.fn.a) × (l.at ≤ length l.fn.b)

abbrev pub decreases-words : goal.decreases-words
decreases-words l = length l.fn.a - l.at
