use Rattle.std.proofs.Common.{◌≡◌, ◌≤◌, ◌+◌, ◌*◌, length}
use Rattle.trie_image.specs.Place.{measure_of}
use Rattle.trie_rule.specs.Rule.{IsStartOf}
use Rattle.trie_reader.specs.Passing.{finding}
use Rattle.trie_reader.proofs.find.Given as goal

abbrev pub invariant-nodes : goal.invariant-nodes
invariant-nodes g l = record {
  table : l.seat.table_id ≡ l.cells.table_id;
  cells : l.seat.knows.cells ≡ l.cells.cells;
  at : l.seat.knows.reader ≡ finding l.base l.place l.key;
  seen : IsStartOf l.fn.seat.knows.seen l.seat.knows.seen;
  high : l.fn.seat.knows.reader.front ≤ l.base;
  steps : l.steps + measure_of l.place (length l.key) ≤ l.fn.steps + 4 * length l.key + 4;
}

abbrev pub decreases-nodes : goal.decreases-nodes
decreases-nodes g l = measure_of l.place (length l.key)
