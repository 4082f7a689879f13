use Rattle.shard_table.proofs.values.copy_value.Given as goal

abbrev pub ghosts-copy_with : goal.ghosts-copy_with
ghosts-copy_with a = record { name = a.blank.name; parts = a.blank.parts }
