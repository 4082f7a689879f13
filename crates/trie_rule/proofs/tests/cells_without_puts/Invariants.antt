use Rattle.trie_rule.proofs.tests.cells_without_puts.Given as goal

abbrev pub ghosts-read_and_close : goal.ghosts-read_and_close
ghosts-read_and_close g a = record { name = a.blank.name; parts = a.blank.parts }
