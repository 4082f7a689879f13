use Rattle.std.proofs.Common.{◌≡◌, ◌∙◌, ◌+◌, ◌<◌, ◌≤◌, length, Option, Ok, Err, IfSome, Result, refl, sym, ap, subst, arith, rules}
use Rattle.outside.specs.Files.{Files, bytes_of}
use Rattle.outside.specs.declared.store.FileId.{FileId}
use Rattle.key_types.specs.Columns.{columns_of}
use Rattle.data_file.specs.declared.reading.DataError.TheVariants.{NoMemory}
use Rattle.table_files.specs.Names.{data_id}
use Rattle.table_reader.specs.Window.{Unread}
use Rattle.data_walk.specs.declared.data_walk.DataWalk.{DataWalk}
use Rattle.data_walk.specs.declared.data_walk.PartitionSum.{PartitionSum}
use Rattle.data_walk.specs.declared.refusal.Refusal.{Refusal}
use Rattle.data_walk.specs.declared.refusal.Refusal.TheVariants as refusal
use Rattle.data_walk.specs.DataWalk.{FindsPartition, OverFile}
use Rattle.data_walk.specs.Refusals.{IsFault}
use Rattle.partition_check.specs.declared.data.Found.{Found}
use Rattle.partition_check.specs.Data.{first_with}
use Rattle.partition_check.proofs.Walked.{Finds, came_end, came_fault, came_on, came_start, came_stop, failed}
use Rattle.partition_check.proofs.data.check_data.Goals as goal

pub returns-in_err-limit-clause-told : goal.returns-in_err-limit-clause-told
returns-in_err-limit-clause-told g c =
    let columns = columns_of c.args.schema.now in
    let files = g.K.Store.files c.args.store.now in
    let file = data_id c.args.generation in
    let e : Refusal = c.in_err-limit.field-0.0 in
    let fault : IsFault e = subst IsFault (sym c.in_err-limit.ensures.stops) tt in
    let is : c.from_residual.result ≡ Err e = search rules in
    subst (λ (r : Result Found Refusal). Finds columns file files r) (sym is) (failed columns file files e fault)

pub partitions-init : goal.partitions-init
partitions-init g c =
    let columns = columns_of c.args.schema.now in
    let files = g.K.Store.files c.args.store.now in
    let size : IfSome files (λ m. c.in_ok-limit.limit ≡ length (bytes_of m c.data_id-file.result)) =
    subst (λ (f : FileId). IfSome files (λ m. c.in_ok-limit.limit ≡ length (bytes_of m f))) (sym c.data_id-file.ensures) c.in_ok-limit.ensures.size in
    record {
      came = came_start columns c.data_id-file.result files c.new-walk.result c.new-first.result c.in_ok-limit.limit size c.new-walk.ensures.window c.new-walk.ensures.place c.new-first.ensures;
      limit = ap (λ (w : Unread). w.limit) c.new-walk.ensures.window;
      few = c.in_ok-limit.ensures.few;
      inside = omega (arith, ap (λ (w : Unread). w.at) c.new-walk.ensures.window);
      partitions = omega arith;
      rows = omega arith;
      same = c.in_ok-limit.ensures.files;
      later = c.in_ok-limit.ensures.later;
    }

pub returns-in_err-sum-clause-told : goal.returns-in_err-sum-clause-told
returns-in_err-sum-clause-told g c =
    let columns = columns_of c.args.schema.now in
    let files = g.K.Store.files c.args.store.now in
    let at = c.partitions in
    let found : Found = record { first = at.first; last = at.walk.key; counts = at.counts } in
    let e : Refusal = c.in_err-sum.field-0.0 in
    let step = subst (λ (f : Option Files). OverFile f c.data_id-file.result (FindsPartition columns) at.walk c.next.new.self (Err e)) at.invariant.same c.in_err-sum.ensures.told in
    let is : c.from_residual-in_err-sum.result ≡ Err e = search rules in
    subst (λ (r : Result Found Refusal). Finds columns (data_id c.args.generation) files r) (sym is)
    (subst (λ (f : FileId). Finds columns f files (Err e)) c.data_id-file.ensures (came_stop columns c.data_id-file.result files found at.walk c.next.new.self e step at.invariant.came))

pub returns-in_err-keep_first-clause-told : goal.returns-in_err-keep_first-clause-told
returns-in_err-keep_first-clause-told g c =
    let columns = columns_of c.args.schema.now in
    let files = g.K.Store.files c.args.store.now in
    let at = c.partitions in
    let found : Found = record { first = at.first; last = at.walk.key; counts = at.counts } in
    let e : Refusal = refusal.Unread NoMemory in
    let is : c.from_residual-in_err-keep_first.result ≡ Err e = search rules in
    subst (λ (r : Result Found Refusal). Finds columns (data_id c.args.generation) files r) (sym is)
    (subst (λ (f : FileId). Finds columns f files (Err e)) c.data_id-file.ensures (came_fault columns c.data_id-file.result files found at.walk e tt at.invariant.came))

pub partitions-preserved : goal.partitions-preserved
partitions-preserved g c =
    let columns = columns_of c.args.schema.now in
    let files = g.K.Store.files c.args.store.now in
    let at = c.partitions in
    let walk : DataWalk = c.next.new.self in
    let found : Found = record { first = at.first; last = at.walk.key; counts = at.counts } in
    let was = c.in_ok-sum.ensures in
    let told = subst (λ (f : Option Files). OverFile f c.data_id-file.result (FindsPartition columns) at.walk walk (Ok c.in_ok-sum.field-0)) at.invariant.same was.told in
    let step = subst (λ (o : Option PartitionSum). OverFile files c.data_id-file.result (FindsPartition columns) at.walk walk (Ok o)) c.in-Some.is told in
    let on = subst (λ (o : Option PartitionSum). IfSome o (λ _. (at.walk.window.at < walk.window.at) × (walk.window.at ≤ walk.window.limit))) c.in-Some.is was.on in
    let position = subst (λ (o : Option PartitionSum). IfSome o (λ sum. sum.position ≡ at.walk.window.at)) c.in-Some.is was.position in
    let rows = subst (λ (o : Option PartitionSum). IfSome o (λ sum. sum.position + sum.rows ≤ walk.window.at)) c.in-Some.is was.rows in
    let kept : c.keep_first.new.first ≡ first_with at.first walk.key = search rules in
    let limit = was.limit ∙ at.invariant.limit in
    record {
      came = came_on columns c.data_id-file.result files found at.walk walk c.in-Some.sum c.keep_first.new.first step kept at.invariant.came;
      limit = limit;
      few = at.invariant.few;
      inside = omega (arith, on.1, limit);
      partitions = omega (arith, on.0, at.invariant.partitions);
      rows = omega (arith, position, rows, at.invariant.rows);
      same = was.files ∙ at.invariant.same;
      later = omega (arith, was.later, at.invariant.later);
    }

pub returns-clause-told : goal.returns-clause-told
returns-clause-told g c =
    let columns = columns_of c.args.schema.now in
    let files = g.K.Store.files c.args.store.now in
    let at = c.partitions in
    let walk : DataWalk = c.next.new.self in
    let found : Found = record { first = at.first; last = at.walk.key; counts = at.counts } in
    let told = subst (λ (f : Option Files). OverFile f c.data_id-file.result (FindsPartition columns) at.walk walk (Ok c.in_ok-sum.field-0)) at.invariant.same c.in_ok-sum.ensures.told in
    let step = subst (λ (o : Option PartitionSum). OverFile files c.data_id-file.result (FindsPartition columns) at.walk walk (Ok o)) c.in_default.is told in
    subst (λ (f : FileId). Finds columns f files (Ok (record { first = at.first; last = walk.key; counts = at.counts }))) c.data_id-file.ensures
    (came_end columns c.data_id-file.result files found at.walk walk step refl at.invariant.came)
