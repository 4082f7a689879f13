use Rattle.load_tests.proofs.gate.a_gate_that_holds_both_threads.Goals as goal

pub check_batch-requires-clause-learnt : goal.check_batch-requires-clause-learnt
check_batch-requires-clause-learnt g c κs = c.law_new_have_learnt.ensures c.in_ok-table.table.shards c.in_ok-table.workers c.in_ok-table.ensures.writers c.in_ok-table.ensures.readers
