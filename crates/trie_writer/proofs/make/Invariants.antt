use Rattle.std.proofs.Common.{length, ◌-◌, ◌≡◌}
use Rattle.trie_writer.specs.Written.{IsPutting}
use Rattle.trie_writer.proofs.make.Given as goal

abbrev pub invariant-stores : goal.invariant-stores
invariant-stores l = record {
  table : l.seat.table_id ≡ l.cells.table_id;
  cells : l.seat.knows.cells ≡ l.cells.cells;
  putting : IsPutting l.fn.seat.knows l.seat.knows l.key l.value l.plan l.at;
}

abbrev pub decreases-stores : goal.decreases-stores
decreases-stores l = length l.plan - l.at
