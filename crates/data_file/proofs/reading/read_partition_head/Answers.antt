use Rattle.data_file.proofs.Found.{first_page, head_stays, none_held}
use Rattle.data_file.proofs.reading.read_partition_head.Goals as goal
use Rattle.key_types.specs.Columns.{columns_of}

pub read_more-requires-clause-front : goal.read_more-requires-clause-front
read_more-requires-clause-front g c = none_held (g.K.Store.files c.args.store.now) c.args.file c.args.at c.new-held.result c.new-held.ensures

pub returns-clause-head : goal.returns-clause-head
returns-clause-head g c =
    head_stays (g.K.Store.files c.args.store.now) (g.K.Store.files c.read_more.new.store) c.args.file (columns_of c.args.schema.now) c.args.at c.read_more.new.held
    c.as_slice.result.now c.in_ok-read_more.field-0 c.head_of.result c.in_ok-read_more.ensures.files c.as_slice.ensures c.in_ok-read_more.ensures.front
    (first_page c.in_ok-read_more.field-0 c.new-held.result c.read_more.new.held c.new-held.ensures c.in_ok-read_more.ensures.grown)
    c.in_ok-read_more.ensures.ended c.head_of.ensures.told
