use Rattle.std.specs.Prelude.{[]}
use Rattle.trie_rule.specs.Seats.{key_asked}
use Rattle.trie_rule.proofs.cells.ShardCells.load_front.Given as goal

abbrev pub ghosts-front_as : goal.ghosts-front_as
ghosts-front_as g a = record { put_key = []; put_value = []; find_key = key_asked a._key }
