use Rattle.shard_tests.proofs.rows.seven_keys_on_running_words.Given as goal

abbrev pub ghosts-seven_keys : goal.ghosts-seven_keys
ghosts-seven_keys g a = record { name = a.blank.name; parts = a.blank.parts }
