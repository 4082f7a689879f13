use Rattle.shard_tests.proofs.beside.count_legal.Given as goal

abbrev pub ghosts-count_with : goal.ghosts-count_with
ghosts-count_with a = record { name = a.blank.name; parts = a.blank.parts }
