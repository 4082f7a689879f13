use Rattle.shard_tests.proofs.rows.a_put_that_is_learnt.Given as goal

abbrev pub ghosts-one_put : goal.ghosts-one_put
ghosts-one_put g a = record { name = a.blank.name; parts = a.blank.parts }
