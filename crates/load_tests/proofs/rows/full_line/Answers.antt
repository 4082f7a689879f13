use Rattle.load_tests.proofs.rows.full_line.Goals as goal

pub run_batch-made-requires-clause-learnt : goal.run_batch-made-requires-clause-learnt
run_batch-made-requires-clause-learnt g c κs within = c.law_new_have_learnt.ensures c.in_ok-table.table.shards c.in_ok-table.workers c.in_ok-table.ensures.writers c.in_ok-table.ensures.readers
