use Rattle.trie_writer.specs.Written.{MayWrite}
use Rattle.shard_tests.proofs.rows.fill.Given as goal

abbrev pub invariant-puts : goal.invariant-puts
invariant-puts g l = MayWrite l.cells l.seat
