use Rattle.std.proofs.lemmas.Result.{err_from_is_err_and}
use Rattle.key_types.specs.Columns.{columns_of}
use Rattle.table_reader.proofs.Seeks.{within_begins, within_stops}
use Rattle.table_reader.proofs.seek.within.Goals as goal

pub returns-in_err-at-clause-begins : goal.returns-in_err-at-clause-begins
returns-in_err-at-clause-begins g c =
    let e = err_from_is_err_and c.from_residual.result c.from_residual.ensures.1 in
    rw (e.1, e.2) (within_stops (columns_of c.args.schema.now) c.args.table.generation c.args.place c.args.head.partition c.args.head.rows_at c.args.bound.now.clustering c.in-Some.clustering c.as_slice-string.result.now
    (g.K.Store.files c.args.store.now) c.in_err-at.field-0.0 c.in-Some.is c.as_slice-string.ensures c.in_err-at.ensures.block)

pub returns-clause-begins : goal.returns-clause-begins
returns-clause-begins g c =
    within_begins (columns_of c.args.schema.now) c.args.table.generation c.args.place c.args.head.partition c.args.head.rows_at c.args.bound.now.clustering c.in-Some.clustering c.as_slice-string.result.now
    (g.K.Store.files c.args.store.now) c.in_ok-at.at c.in-Some.is c.as_slice-string.ensures c.in_ok-at.ensures.block
