use Rattle.std.proofs.Common.{None, Ok, Option, Some, arith, rules, subst, w64}
use Rattle.std.proofs.lemmas.Int.{to_z-of_z}
use Rattle.std.proofs.lemmas.Result.{err_from_is_err_and}
use mir.Val.{SFits}
use Rattle.key_types.specs.Columns.{columns_of}
use Rattle.bti_reader.specs.declared.ask.Hit.{Hit}
use Rattle.bti_reader.specs.Searches.{exact_in}
use Rattle.bti_reader.specs.Steps.{FindsHit}
use Rattle.table_reader.proofs.SeekBounds.{from_seek}
use Rattle.table_reader.proofs.Seeks.{begins_none, begins_some, seek_reads, seeks_found, seeks_lost}
use Rattle.table_reader.proofs.seek.search.Goals as goal

pub returns-in_err-hit-clause-seeks : goal.returns-in_err-hit-clause-seeks
returns-in_err-hit-clause-seeks g c =
    let e = err_from_is_err_and c.from_residual-in_err-hit.result c.from_residual-in_err-hit.ensures.1 in
    rw (e.1, e.2) (seeks_lost (columns_of c.args.schema.now) c.args.generation c.args.root c.args.bound.now (g.K.Store.files c.args.store.now) (g.K.Store.files c.size.new.self) c.as_slice-string.result.now
    c.partitions_id.result c.in_err-hit.field-0.0 c.size.ensures.files c.as_slice-string.ensures c.partitions_id.ensures c.in_err-hit.ensures.found)

pub returns-in-Some-clause-seeks : goal.returns-in-Some-clause-seeks
returns-in-Some-clause-seeks g c =
    let fit : SFits w64 c.in-Some.hit.number = search rules in
    seeks_found (columns_of c.args.schema.now) c.args.generation c.args.root c.args.bound.now (g.K.Store.files c.args.store.now) (g.K.Store.files c.size.new.self) (g.K.Store.files c.exact.new.store)
    c.as_slice-string.result.now c.partitions_id.result (Some c.in-Some.hit) c.by_partition.result c.size.ensures.files c.exact.ensures.files c.as_slice-string.ensures c.partitions_id.ensures
    (subst (λ (found : Option Hit). FindsHit (g.K.Store.files c.size.new.self) c.partitions_id.result 0 (λ bytes. exact_in bytes c.args.root c.as_slice-string.result.now) (Ok found)) c.in-Some.is c.in_ok-hit.ensures.found)
    (begins_some (columns_of c.args.schema.now) c.args.generation c.args.root c.args.bound.now (g.K.Store.files c.exact.new.store) c.in-Some.hit _ c.by_partition.result (to_z-of_z w64 c.in-Some.hit.number fit)
    c.by_partition.ensures.begins)

pub returns-in-Some-clause-reads : goal.returns-in-Some-clause-reads
returns-in-Some-clause-reads g c =
    let fit : SFits w64 c.in-Some.hit.number = search rules in
    seek_reads (columns_of c.args.schema.now) c.args.generation c.args.root c.args.bound.now (g.K.Store.files c.args.store.now) (g.K.Store.files c.size.new.self) (g.K.Store.files c.exact.new.store)
    c.as_slice-string.result.now c.partitions_id.result c.in-Some.hit _ c.by_partition.result (g.K.Store.reads c.args.store.now) (g.K.Store.reads c.exact.new.store) (g.K.Store.reads c.by_partition.new.store)
    c.size.ensures.files c.exact.ensures.files c.as_slice-string.ensures c.partitions_id.ensures (to_z-of_z w64 c.in-Some.hit.number fit)
    (omega (arith, c.size.ensures.reads, c.exact.ensures.reads))
    (subst (λ (found : Option Hit). FindsHit (g.K.Store.files c.size.new.self) c.partitions_id.result 0 (λ bytes. exact_in bytes c.args.root c.as_slice-string.result.now) (Ok found)) c.in-Some.is c.in_ok-hit.ensures.found)
    c.by_partition.ensures.reads

pub returns-in-None-clause-seeks : goal.returns-in-None-clause-seeks
returns-in-None-clause-seeks g c =
    seeks_found (columns_of c.args.schema.now) c.args.generation c.args.root c.args.bound.now (g.K.Store.files c.args.store.now) (g.K.Store.files c.size.new.self) (g.K.Store.files c.exact.new.store)
    c.as_slice-string.result.now c.partitions_id.result None c.next_partition.result c.size.ensures.files c.exact.ensures.files c.as_slice-string.ensures c.partitions_id.ensures
    (subst (λ (found : Option Hit). FindsHit (g.K.Store.files c.size.new.self) c.partitions_id.result 0 (λ bytes. exact_in bytes c.args.root c.as_slice-string.result.now) (Ok found)) c.in-None.is c.in_ok-hit.ensures.found)
    (begins_none (columns_of c.args.schema.now) c.args.generation c.args.root c.args.bound.now (g.K.Store.files c.exact.new.store) c.as_slice-string.result.now c.next_partition.result c.as_slice-string.ensures
    c.next_partition.ensures.begins)

pub returns-in-Some-clause-within : goal.returns-in-Some-clause-within
returns-in-Some-clause-within g c =
    let fit : SFits w64 c.in-Some.hit.number = search rules in
    from_seek (columns_of c.args.schema.now) c.args.generation c.args.root c.args.bound.now (g.K.Store.files c.args.store.now) (g.K.Store.files c.size.new.self) (g.K.Store.files c.exact.new.store)
    c.as_slice-string.result.now c.partitions_id.result c.in-Some.hit _ (g.K.Store.reads c.args.store.now) (g.K.Store.reads c.exact.new.store) (g.K.Store.reads c.by_partition.new.store)
    c.size.ensures.files c.exact.ensures.files c.as_slice-string.ensures c.partitions_id.ensures (to_z-of_z w64 c.in-Some.hit.number fit)
    (omega (arith, c.size.ensures.reads, c.exact.ensures.reads))
    (subst (λ (found : Option Hit). FindsHit (g.K.Store.files c.size.new.self) c.partitions_id.result 0 (λ bytes. exact_in bytes c.args.root c.as_slice-string.result.now) (Ok found)) c.in-Some.is c.in_ok-hit.ensures.found)
    c.by_partition.ensures.within
