use Rattle.std.proofs.Common.{refl}
use Rattle.key_types.specs.Columns.{columns_of}
use Rattle.index_files.proofs.Told.{entry_told, no_entry_told}
use Rattle.index_files.proofs.reading.read_entry.Goals as goal

pub returns-in-Some-clause-entry : goal.returns-in-Some-clause-entry
returns-in-Some-clause-entry g c =
    entry_told (g.K.Store.files c.args.store.now) c.args.file (columns_of c.args.schema.now) c.args.file.part c.args.at c.in_ok-bytes.bytes
    c.as_slice.result.now c.in-Some.entry.partition.now c.in-Some.entry.numbers c.in_ok-bytes.ensures.bytes c.as_slice.ensures c.in-Some.ensures.some

pub returns-clause-entry : goal.returns-clause-entry
returns-clause-entry g c =
    no_entry_told (g.K.Store.files c.args.store.now) c.args.file (columns_of c.args.schema.now) c.args.file.part c.args.at c.in_ok-bytes.bytes
    c.as_slice.result.now c.damaged.result c.in_ok-bytes.ensures.bytes c.as_slice.ensures c.damaged.ensures (c.in-None.ensures.none refl)
