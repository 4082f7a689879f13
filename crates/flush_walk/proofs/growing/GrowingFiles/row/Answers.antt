use Rattle.std.proofs.Common.{rules, refl, Ok, sym, ◌∙◌}
use Rattle.bti_nodes.specs.declared.damage.PackError.{PackError}
use Rattle.flush_walk.proofs.Moves.{no_row, row_moves, torn_as}
use Rattle.flush_walk.proofs.growing.GrowingFiles.row.Goals as goal

pub returns-in_err-row-clause-moved : goal.returns-in_err-row-clause-moved
returns-in_err-row-clause-moved g c =
    λ t h.
    torn_as c.row.result c.from_residual.result _ _ _ _ (search rules) c.from_residual.ensures.0
    (row_moves c.args.self.now _ t _ _ h refl refl c.row.ensures.file c.args.clustering.now c.args.value.now c.row.result (sym c.is_empty.ensures ∙ search rules) c.row.ensures.position c.row.ensures.written)

pub returns-in_ok-row-clause-moved : goal.returns-in_ok-row-clause-moved
returns-in_ok-row-clause-moved g c =
    λ t h.
    row_moves c.args.self.now _ t _ _ h refl refl c.in_ok-row.ensures.file {E = PackError} c.args.clustering.now c.args.value.now (Ok c.in_ok-row.field-0) (sym c.is_empty.ensures ∙ search rules) c.in_ok-row.ensures.position c.in_ok-row.ensures.written

pub returns-else-not-is_empty-clause-moved : goal.returns-else-not-is_empty-clause-moved
returns-else-not-is_empty-clause-moved g c = λ t h. no_row _ t _ c.args.clustering.now c.args.value.now (sym c.is_empty.ensures ∙ search rules) h
