use Rattle.std.proofs.Common.{◌∙◌}
use Rattle.key_types.specs.Columns.{columns_of}
use Rattle.flush_walk.proofs.PartsLemmas.{split_there}
use Rattle.flush_walk.proofs.parts.part.Goals as goal

pub returns-clause-partition : goal.returns-clause-partition
returns-clause-partition c = c.split_at.ensures.front ∙ (split_there (columns_of c.args.schema.now) c.args.key.now c.split_row.result c.requires c.split_row.ensures.only).0

pub returns-clause-clustering : goal.returns-clause-clustering
returns-clause-clustering c = c.split_at.ensures.back ∙ (split_there (columns_of c.args.schema.now) c.args.key.now c.split_row.result c.requires c.split_row.ensures.only).1
