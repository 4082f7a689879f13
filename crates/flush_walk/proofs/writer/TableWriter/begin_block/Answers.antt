use Rattle.std.proofs.Common.{rules, sym, ◌∙◌}
use Rattle.row_index.specs.Writing.{block_of}
use Rattle.flush_walk.specs.Current.{begins_block}
use Rattle.flush_walk.proofs.Moves.{no_block}
use Rattle.flush_walk.proofs.writer.TableWriter.begin_block.Goals as goal

pub returns-then-not-begins_block-clause-moved : goal.returns-then-not-begins_block-clause-moved
returns-then-not-begins_block-clause-moved g c =
    λ t h ready.
    no_block _ t _ (begins_block c.args.self.now.current c.args.end) (block_of c.args.self.now.current.last c.args.clustering.now c.args.end) (sym c.begins_block.ensures ∙ search rules) h
