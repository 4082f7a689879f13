use Rattle.std.proofs.Common.{◌≡◌, refl, rules}
use Rattle.index_files.specs.declared.place.PartitionPlace.TheVariants.{Entry}
use Rattle.index_files.specs.Reading.{partition_place}
use Rattle.std.proofs.lemmas.Result.{err_from_is_err_and}
use Rattle.key_types.specs.Columns.{columns_of}
use Rattle.table_reader.proofs.Places.{no_entry}
use Rattle.table_reader.proofs.place.place_of.Goals as goal

pub returns-in_err-entry-in-Entry-clause-place : goal.returns-in_err-entry-in-Entry-clause-place
returns-in_err-entry-in-Entry-clause-place g c =
    let leads : partition_place c.args.number ≡ Entry c.in-Entry.at = search (rules, c.partition_place.ensures, c.in-Entry.is, c.in-Entry.ensures) in
    let e = err_from_is_err_and c.from_residual.result c.from_residual.ensures.1 in
    rw (e.1, e.2) (no_entry (g.K.Store.files c.args.store.now) (columns_of c.args.schema.now) c.args.generation c.in-Entry.at c.rows_id.result _ _ _ c.rows_id.ensures
    (leads) c.in_err-entry-in-Entry.ensures.entry refl)
