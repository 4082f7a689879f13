use Rattle.trie_reader.specs.Read.{MayRead}
use Rattle.shard_bench.proofs.find_all.Given as goal

abbrev pub invariant-finds : goal.invariant-finds
invariant-finds g l = MayRead l.cells l.seat
