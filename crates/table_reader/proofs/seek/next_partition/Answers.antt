use Rattle.std.proofs.Common.{Err, IfSome, Ok, Option, ℤ, rules, subst, w64}
use Rattle.std.proofs.lemmas.Int.{to_z-of_z}
use Rattle.std.proofs.lemmas.Result.{err_from_is_err_and}
use mir.Val.{SFits}
use Rattle.key_types.specs.Columns.{columns_of}
use Rattle.bti_reader.specs.declared.ask.Hit.{Hit}
use Rattle.bti_reader.specs.Searches.{ceiling_in}
use Rattle.bti_reader.specs.Steps.{FindsHit}
use Rattle.index_files.specs.Reading.{partition_place}
use Rattle.table_reader.specs.Gets.{LeadsTo, bytes_in}
use Rattle.table_reader.specs.Reads.{Ends}
use Rattle.table_reader.proofs.Seeks.{head_begins_next, head_stops_next, next_head, next_lost, next_place_stops}
use Rattle.table_reader.proofs.seek.next_partition.Goals as goal

pub returns-in_err-hit-clause-begins : goal.returns-in_err-hit-clause-begins
returns-in_err-hit-clause-begins g c =
    let e = err_from_is_err_and c.from_residual.result c.from_residual.ensures.1 in
    rw (e.1, e.2) (next_lost (columns_of c.args.schema.now) c.args.table.generation c.args.table.root c.args.string.now (g.K.Store.files c.args.store.now) c.partitions_id-file.result c.in_err-hit.field-0.0
    c.partitions_id-file.ensures c.in_err-hit.ensures.found)

pub returns-in_err-place-clause-begins : goal.returns-in_err-place-clause-begins
returns-in_err-place-clause-begins g c =
    let fit : SFits w64 c.in-Some.hit.number = search rules in
    let e = err_from_is_err_and c.from_residual-in_err-place.result c.from_residual-in_err-place.ensures.1 in
    rw (e.1, e.2) (next_place_stops (columns_of c.args.schema.now) c.args.table.generation c.args.table.root c.args.string.now (g.K.Store.files c.args.store.now) (g.K.Store.files c.ceiling.new.store)
    c.partitions_id-file.result c.in-Some.hit c.in_err-place.field-0.0 c.ceiling.ensures.files c.partitions_id-file.ensures
    (subst (λ (found : Option Hit). FindsHit (g.K.Store.files c.args.store.now) c.partitions_id-file.result 0 (λ bytes. ceiling_in bytes c.args.table.root c.args.string.now) (Ok found)) c.in-Some.is c.in_ok-hit.ensures.found)
    (subst (λ (z : ℤ). IfSome (g.K.Store.files c.ceiling.new.store) (λ m. Ends (LeadsTo (bytes_in (columns_of c.args.schema.now) m c.args.table.generation) (partition_place z)) (Err c.in_err-place.field-0.0)))
    (to_z-of_z w64 c.in-Some.hit.number fit) c.in_err-place.ensures.place))

pub returns-in_err-head_at-clause-begins : goal.returns-in_err-head_at-clause-begins
returns-in_err-head_at-clause-begins g c =
    let fit : SFits w64 c.in-Some.hit.number = search rules in
    let e = err_from_is_err_and c.from_residual-in_err-head_at.result c.from_residual-in_err-head_at.ensures.1 in
    rw (e.1, e.2) (next_head (columns_of c.args.schema.now) c.args.table.generation c.args.table.root c.args.string.now (g.K.Store.files c.args.store.now) (g.K.Store.files c.ceiling.new.store) (g.K.Store.files c.place_of.new.store)
    c.partitions_id-file.result c.in-Some.hit c.in_ok-place.place (Err c.in_err-head_at.field-0.0) (Err c.in_err-head_at.field-0.0) c.ceiling.ensures.files c.place_of.ensures.files c.partitions_id-file.ensures
    (subst (λ (found : Option Hit). FindsHit (g.K.Store.files c.args.store.now) c.partitions_id-file.result 0 (λ bytes. ceiling_in bytes c.args.table.root c.args.string.now) (Ok found)) c.in-Some.is c.in_ok-hit.ensures.found)
    (subst (λ (z : ℤ). IfSome (g.K.Store.files c.ceiling.new.store) (λ m. Ends (LeadsTo (bytes_in (columns_of c.args.schema.now) m c.args.table.generation) (partition_place z)) (Ok c.in_ok-place.place)))
    (to_z-of_z w64 c.in-Some.hit.number fit) c.in_ok-place.ensures.place) c.in_err-head_at.ensures.head
    (λ m told. head_stops_next (columns_of c.args.schema.now) c.args.table.generation c.args.table.root c.args.string.now c.in_ok-place.place c.in_err-head_at.field-0.0 m told))

pub returns-clause-begins : goal.returns-clause-begins
returns-clause-begins g c =
    let fit : SFits w64 c.in-Some.hit.number = search rules in
    next_head (columns_of c.args.schema.now) c.args.table.generation c.args.table.root c.args.string.now (g.K.Store.files c.args.store.now) (g.K.Store.files c.ceiling.new.store) (g.K.Store.files c.place_of.new.store)
    c.partitions_id-file.result c.in-Some.hit c.in_ok-place.place (Ok c.in_ok-head_at.field-0) (Ok c.at_head.result) c.ceiling.ensures.files c.place_of.ensures.files c.partitions_id-file.ensures
    (subst (λ (found : Option Hit). FindsHit (g.K.Store.files c.args.store.now) c.partitions_id-file.result 0 (λ bytes. ceiling_in bytes c.args.table.root c.args.string.now) (Ok found)) c.in-Some.is c.in_ok-hit.ensures.found)
    (subst (λ (z : ℤ). IfSome (g.K.Store.files c.ceiling.new.store) (λ m. Ends (LeadsTo (bytes_in (columns_of c.args.schema.now) m c.args.table.generation) (partition_place z)) (Ok c.in_ok-place.place)))
    (to_z-of_z w64 c.in-Some.hit.number fit) c.in_ok-place.ensures.place) c.in_ok-head_at.ensures.head
    (λ m told. head_begins_next (columns_of c.args.schema.now) c.args.table.generation c.args.table.root c.args.string.now c.in_ok-place.place c.in_ok-head_at.field-0 c.at_head.result m c.at_head.ensures told)
