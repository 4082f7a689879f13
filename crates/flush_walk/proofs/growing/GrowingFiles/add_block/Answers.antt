use Rattle.std.proofs.Common.{refl}
use Rattle.row_index.specs.Writing.{block_of}
use Rattle.row_index.proofs.Growing.{early_rows_grow}
use Rattle.flush_walk.proofs.Moves.{some_rows_move, written_block}
use Rattle.flush_walk.proofs.growing.GrowingFiles.add_block.Goals as goal

pub returns-clause-moved : goal.returns-clause-moved
returns-clause-moved g c =
    λ t h behind are.
    let b = block_of c.args.last_before.now c.args.first.now c.args.offset in
    some_rows_move c.args.self.now _ t _ _ (early_rows_grow t.rows b are) _ _ h refl c.add.result (written_block c.add.result _ _ t.rows b behind c.add.ensures.added.writes) refl refl
    (c.add.ensures.added.appends t.rows h.rows)
