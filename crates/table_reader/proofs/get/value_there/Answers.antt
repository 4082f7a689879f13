use Rattle.std.proofs.lemmas.Int.{to_z-of_z}
use Rattle.key_types.specs.Columns.{columns_of}
use Rattle.table_reader.proofs.Steps.{there_found, there_none}
use Rattle.table_reader.proofs.get.value_there.Goals as goal

pub returns-in-Some-clause-value : goal.returns-in-Some-clause-value
returns-in-Some-clause-value g c =
    let fits = c.ranges.number in
    let place = simp to_z-of_z at c.in_ok-there.ensures.place in
    there_found (g.K.Store.files c.args.store.now) (g.K.Store.files c.place_of.new.store) (g.K.Store.files c.behind_head.new.store) (columns_of c.args.schema.now) c.args.generation c.args.key.now
    _ c.args.number c.in_ok-there.there c.in-Some.behind c.value_inside.result c.in_ok-there.ensures.files c.in_ok-behind.ensures.files place
    (rw c.in-Some.is at c.in_ok-behind.ensures.head) c.value_inside.ensures.value

pub returns-in-None-clause-value : goal.returns-in-None-clause-value
returns-in-None-clause-value g c =
    let fits = c.ranges.number in
    let place = simp to_z-of_z at c.in_ok-there.ensures.place in
    there_none (g.K.Store.files c.args.store.now) (g.K.Store.files c.place_of.new.store) (columns_of c.args.schema.now) c.args.generation c.args.key.now
    _ c.args.number c.in_ok-there.there c.in_ok-there.ensures.files place (rw c.in-None.is at c.in_ok-behind.ensures.head)
