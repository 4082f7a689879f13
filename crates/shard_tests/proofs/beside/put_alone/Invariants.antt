use Rattle.trie_writer.specs.Written.{MayWrite}
use Rattle.shard_tests.proofs.beside.put_alone.Given as goal

abbrev pub invariant-puts : goal.invariant-puts
invariant-puts l = MayWrite l.cells l.seat
