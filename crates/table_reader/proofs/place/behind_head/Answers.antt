use Rattle.std.proofs.Common.{refl}
use Rattle.key_types.specs.Columns.{columns_of}
use Rattle.table_reader.proofs.Places.{head_is, head_none, head_other}
use Rattle.table_reader.proofs.place.behind_head.Goals as goal

pub returns-in-Some-clause-head : goal.returns-in-Some-clause-head
returns-in-Some-clause-head g c =
    head_is (g.K.Store.files c.args.store.now) (g.K.Store.files c.is_beyond.new.store) (columns_of c.args.schema.now) c.args.generation c.args.at c.data_id-file.result c.in_ok-bytes.bytes
    c.as_slice.result.now c.in-Some.found.now c.args.key.now _ c.in_ok-is_beyond.ensures.files c.data_id-file.ensures c.in_ok-bytes.ensures.bytes c.as_slice.ensures c.in-Some.ensures.some
    (c.is_same.ensures.0 c.if-is_same.true) refl

pub returns-in-Some-2-clause-head : goal.returns-in-Some-2-clause-head
returns-in-Some-2-clause-head g c =
    head_other (g.K.Store.files c.args.store.now) (g.K.Store.files c.is_beyond.new.store) (columns_of c.args.schema.now) c.args.generation c.args.at c.data_id-file.result c.in_ok-bytes.bytes
    c.as_slice.result.now c.in-Some.found.now c.args.key.now c.in_ok-is_beyond.ensures.files c.data_id-file.ensures c.in_ok-bytes.ensures.bytes c.as_slice.ensures c.in-Some.ensures.some
    (λ same. let yes = c.is_same.ensures.1 same in cc)

pub returns-clause-head : goal.returns-clause-head
returns-clause-head g c =
    head_none (g.K.Store.files c.args.store.now) (g.K.Store.files c.is_beyond.new.store) (columns_of c.args.schema.now) c.args.generation c.args.at c.data_id-file.result c.in_ok-bytes.bytes
    c.as_slice.result.now c.args.key.now c.damaged-in-None.result c.in_ok-is_beyond.ensures.files c.data_id-file.ensures c.in_ok-bytes.ensures.bytes c.as_slice.ensures (c.in-None.ensures.none refl) c.damaged-in-None.ensures
