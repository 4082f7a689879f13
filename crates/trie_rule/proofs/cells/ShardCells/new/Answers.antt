use Rattle.std.proofs.Common.{rules}
use Rattle.trie_rule.proofs.Ends.{starts, opened}
use Rattle.trie_rule.proofs.cells.ShardCells.new.Goals as goal

pub of_words-requires : goal.of_words-requires
of_words-requires c = starts _ c.args.cells _ c.requires.least c.requires.most (search rules)

pub invariant_of-result-2 : goal.invariant_of-result-2
invariant_of-result-2 c = opened _ _ c.args.cells c.requires.least c.requires.most (search rules) (search rules)
