use Rattle.shard_bench.proofs.read_one.Given as goal

abbrev pub ghosts-find_until_all : goal.ghosts-find_until_all
ghosts-find_until_all g a = record { name = a.blank.name; parts = a.blank.parts }
