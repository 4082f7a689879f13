use Rattle.std.proofs.Common.{◌≡◌, ℕ, ◌<◌, length, get_or}
use Rattle.bti_nodes.proofs.encode.line_up.Given as goal

abbrev pub invariant-loop-i : goal.invariant-loop-i
invariant-loop-i l = record {
  long : length l.row ≡ 256;
  written : (k : ℕ) → k < l.i → get_or l.row k 0 ≡ (get_or l.children k (record { byte = 0; distance = 0 })).distance;
}
