use Rattle.std.proofs.Common.{refl}
use Rattle.row_index.proofs.Growing.{partition_ends}
use Rattle.flush_walk.proofs.Moves.{all_rows_move, at_begun, written_partition}
use Rattle.flush_walk.proofs.growing.GrowingFiles.finish_rows.Goals as goal

pub returns-clause-moved : goal.returns-clause-moved
returns-clause-moved g c =
    λ t h.
    all_rows_move c.args.self.now _ t _ _ (partition_ends t.rows c.args.partition.now c.args.data_at h.rows.fine) _ _ h refl c.finish_partition.result
    (written_partition c.finish_partition.result _ _ t.rows c.args.partition.now c.args.data_at h.rows c.finish_partition.ensures.done) refl refl
    (c.finish_partition.ensures.written t.rows h.rows)

pub returns-clause-at : goal.returns-clause-at
returns-clause-at g c = at_begun c.args.self.now _ c.finish_partition.result c.finish_partition.ensures.at
