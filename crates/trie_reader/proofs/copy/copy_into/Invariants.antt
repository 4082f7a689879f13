use Rattle.std.proofs.Common.{◌≡◌, ◌+◌, ◌*◌, length}
use Rattle.trie_reader.specs.Read.{IsCopying}
use Rattle.trie_reader.proofs.copy.copy_into.Given as goal

abbrev pub invariant-words : goal.invariant-words
invariant-words g l = record {
  same : l.seat ≡ l.fn.seat;
  size : length l.out ≡ l.rec.length;
  copying : IsCopying l.fn.seat.knows.seen l.rec l.out (8 * l.place);
  steps : l.steps ≡ l.fn.steps + l.place;
}
