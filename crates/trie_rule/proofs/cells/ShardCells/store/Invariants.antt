use Rattle.std.specs.Prelude.{None}
use Rattle.trie_rule.proofs.cells.ShardCells.store.Given as goal

abbrev pub ghosts-store_as : goal.ghosts-store_as
ghosts-store_as a = record { put_key = a._key.now; put_value = a._value.now; find_key = None }
