use Rattle.shard_bench.proofs.run_in_turn.Given as goal

abbrev pub ghosts-find_all : goal.ghosts-find_all
ghosts-find_all g a = record { name = a.blank.name; parts = a.blank.parts }
