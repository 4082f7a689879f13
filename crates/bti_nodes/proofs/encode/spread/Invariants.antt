use Rattle.std.proofs.Common.{◌≡◌, ℕ, ◌+◌, ◌<◌, ◌≤◌, length, get_or}
use Rattle.bti_nodes.specs.Spelling.{IsAscending, distance_under}
use Rattle.bti_nodes.proofs.encode.spread.Given as goal

abbrev pub invariant-loop-i : goal.invariant-loop-i
invariant-loop-i l = record {
  long : length l.row ≡ 256;
  written : (k : ℕ) → k < l.i → get_or l.row k 0 ≡ distance_under l.children (l.first + k);
  order : IsAscending (l.first + l.i) l.rest;
  ahead : (b : ℕ) → l.first + l.i ≤ b → distance_under l.rest b ≡ distance_under l.children b;
}
