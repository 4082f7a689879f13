use Rattle.trie_reader.specs.Read.{MayRead}
use Rattle.shard_tests.proofs.beside.count_with.Given as goal

abbrev pub invariant-finds : goal.invariant-finds
invariant-finds g l = MayRead l.cells l.seat
