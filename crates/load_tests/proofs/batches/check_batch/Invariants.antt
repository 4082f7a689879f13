use Rattle.std.proofs.Common.{◌≡◌}
use Rattle.load_tests.proofs.batches.check_batch.Given as goal

abbrev pub invariant-answers : goal.invariant-answers
invariant-answers g l = l.workers ≡ l.initial.workers
