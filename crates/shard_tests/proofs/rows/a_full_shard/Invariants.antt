use Rattle.shard_tests.proofs.rows.a_full_shard.Given as goal

abbrev pub ghosts-full_shard : goal.ghosts-full_shard
ghosts-full_shard g a = record { name = a.blank.name; parts = a.blank.parts }
