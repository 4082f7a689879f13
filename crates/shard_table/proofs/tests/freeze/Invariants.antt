use Rattle.std.proofs.Common.{◌≡◌, None}
use Rattle.trie_rule.specs.Seats.{WritesTo}
use Rattle.shard_table.proofs.tests.freeze.Given as goal

abbrev pub invariant-loop-key : goal.invariant-loop-key
invariant-loop-key g l = record {
  own : WritesTo l.cells l.seat;
  idle : l.seat.knows.begun ≡ None;
}
