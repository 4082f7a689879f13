use Rattle.std.proofs.Common.{rules}
use Rattle.trie_rule.proofs.Keeps.{owns_store}
use Rattle.trie_rule.proofs.cells.ShardCells.store_as.Goals as goal

pub store-requires : goal.store-requires
store-requires g c = (search rules, search rules, owns_store _ _ _ _ _ g.A.Asks.put_key g.A.Asks.put_value _ _ c.requires.writer c.requires.next)
