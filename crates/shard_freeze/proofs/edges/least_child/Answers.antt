use Rattle.std.proofs.Common.{rules}
use Rattle.shard_freeze.proofs.Nodes.{chain_inside, chain_tail_there, sparse_inside, is_sparse, sparse_there, split_cells}
use Rattle.shard_freeze.proofs.edges.least_child.Goals as goal

pub least_of_chain-requires-clause-inside : goal.least_of_chain-requires-clause-inside
least_of_chain-requires-clause-inside c = let i = c.requires.image in let at = c.requires.path i.0 i.1 i.2 in
    chain_inside c.args.words.now.words i.0 i.1 i.2 c.args.p at.0 at.1 (search rules)

pub least_of_chain-requires-clause-tail : goal.least_of_chain-requires-clause-tail
least_of_chain-requires-clause-tail c = let i = c.requires.image in let at = c.requires.path i.0 i.1 i.2 in
    chain_tail_there c.args.words.now.words i.0 i.1 i.2 c.args.p at.0 at.1 (search rules)

pub least_of_sparse-requires-clause-inside : goal.least_of_sparse-requires-clause-inside
least_of_sparse-requires-clause-inside c = let i = c.requires.image in let at = c.requires.path i.0 i.1 i.2 in
    sparse_inside c.args.words.now.words i.0 i.1 i.2 c.args.p at.0 at.1 (search rules)

pub least_of_sparse-requires-clause-sparse : goal.least_of_sparse-requires-clause-sparse
least_of_sparse-requires-clause-sparse c = let i = c.requires.image in let at = c.requires.path i.0 i.1 i.2 in
    is_sparse c.args.words.now.words i.0 i.1 i.2 c.args.p at.0 at.1 (search rules)

pub least_of_sparse-requires-clause-there : goal.least_of_sparse-requires-clause-there
least_of_sparse-requires-clause-there c = let i = c.requires.image in let at = c.requires.path i.0 i.1 i.2 in
    sparse_there c.args.words.now.words i.0 i.1 i.2 c.args.p at.0 at.1 (search rules)

pub least_of_split-requires : goal.least_of_split-requires
least_of_split-requires c = let i = c.requires.image in let at = c.requires.path i.0 i.1 i.2 in
    record { cells = split_cells c.args.words.now.words i.0 i.1 i.2 c.args.p at.0 at.1 (search rules) }
