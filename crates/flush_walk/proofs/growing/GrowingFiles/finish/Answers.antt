use Rattle.std.proofs.Common.{rules}
use Rattle.bti_nodes.specs.declared.damage.PackError.{PackError}
use Rattle.flush_walk.proofs.Finish.{ends_err, index_end, listing_cut_off, listing_ends, rows_cut_off, rows_end}
use Rattle.flush_walk.proofs.growing.GrowingFiles.finish.Goals as goal

pub returns-in_err-finish-clause-ended : goal.returns-in_err-finish-clause-ended
returns-in_err-finish-clause-ended g c =
    λ t h none.
    ends_err c.from_residual.result t _ c.from_residual.ensures.0 (listing_cut_off c.args.self t _ h none c.finish.result _ (search rules) c.finish.ensures.written)

pub returns-in_err-finish-2-clause-ended : goal.returns-in_err-finish-2-clause-ended
returns-in_err-finish-2-clause-ended g c =
    λ t h none.
    let made = listing_ends c.args.self t _ h none PackError c.in_ok-finish.field-0 _ c.in_ok-finish.ensures.written in
    ends_err c.from_residual-in_err-finish-2.result t _ c.from_residual-in_err-finish-2.ensures.0
    (rows_cut_off c.args.self t _ h none c.finish-2.result _ _ (search rules) made (c.finish-2.ensures.written t.rows h.rows))

pub returns-clause-ended : goal.returns-clause-ended
returns-clause-ended g c =
    λ t h none.
    let made = listing_ends c.args.self t _ h none PackError c.in_ok-finish.field-0 _ c.in_ok-finish.ensures.written in
    let both = rows_end c.args.self t _ h none PackError c.in_ok-finish-2.field-0 _ _ made (c.in_ok-finish-2.ensures.written t.rows h.rows) in
    index_end c.args.self t _ h none c.finish-3.result _ _ both (c.finish-3.ensures.written t.index h.index)
