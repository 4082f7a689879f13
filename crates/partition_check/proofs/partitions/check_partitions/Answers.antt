use Rattle.std.proofs.Common.{◌≡◌, ◌∙◌, Option, None, Result, Ok, Err, ap, sym, subst, rules}
use Rattle.std.specs.Prelude.{⊤}
use Rattle.outside.specs.Files.{Files}
use Rattle.outside.specs.declared.store.FileId.{FileId}
use Rattle.key_types.specs.Columns.{columns_of}
use Rattle.bti_reader.specs.Ways.{Progress}
use Rattle.bti_reader.specs.Walks.{last_given}
use Rattle.table_files.specs.Names.{data_id, partitions_id}
use Rattle.data_walk.specs.declared.data_walk.PartitionSum.{PartitionSum}
use Rattle.data_walk.specs.declared.refusal.Refusal.{Refusal}
use Rattle.data_walk.specs.DataWalk.{FindsPartition, OverFile}
use Rattle.data_walk.specs.Refusals.{IsFault}
use Rattle.partition_check.proofs.Beside.{Begins, Checks, Compares, checks_failed, checks_stop, checks_whole}
use Rattle.partition_check.proofs.partitions.check_partitions.Goals as goal

pub returns-in_err-limit-clause-told : goal.returns-in_err-limit-clause-told
returns-in_err-limit-clause-told g c =
    let columns = columns_of c.args.schema.now in
    let files = g.K.Store.files c.args.store.now in
    let e : Refusal = c.in_err-limit.field-0.0 in
    let fault : IsFault e = subst IsFault (sym c.in_err-limit.ensures.stops) tt in
    let is : c.from_residual.result ≡ Err e = search rules in
    subst (λ (r : Result ⊤ Refusal). Checks columns (data_id c.args.generation) (partitions_id c.args.generation) c.args.root files r) (sym is)
    (checks_failed columns (data_id c.args.generation) (partitions_id c.args.generation) c.args.root files e fault)

pub returns-in_err-first-clause-told : goal.returns-in_err-first-clause-told
returns-in_err-first-clause-told g c =
    let columns = columns_of c.args.schema.now in
    let files = g.K.Store.files c.args.store.now in
    let file : FileId = data_id c.args.generation in
    let index : FileId = partitions_id c.args.generation in
    let e : Refusal = c.in_err-first.field-0.0 in
    let begins : Begins file files c.new-walk.result c.in_ok-limit.limit =
    record { size = c.in_ok-limit.ensures.size; window = c.new-walk.ensures.window; place = c.new-walk.ensures.place } in
    let told = subst (λ (f : Option Files). OverFile f c.data_id-file.result (FindsPartition columns) c.new-walk.result c.next.new.self (Err e)) c.in_ok-limit.ensures.files c.in_err-first.ensures.told in
    let step = subst (λ (f : FileId). OverFile files f (FindsPartition columns) c.new-walk.result c.next.new.self (Err e)) c.data_id-file.ensures told in
    let is : c.from_residual-in_err-first.result ≡ Err e = search rules in
    subst (λ (r : Result ⊤ Refusal). Checks columns file index c.args.root files r) (sym is)
    (checks_stop columns file index c.args.root files c.new-walk.result c.next.new.self c.in_ok-limit.limit e begins step)

pub returns-clause-told : goal.returns-clause-told
returns-clause-told g c =
    let columns = columns_of c.args.schema.now in
    let files = g.K.Store.files c.args.store.now in
    let file : FileId = data_id c.args.generation in
    let index : FileId = partitions_id c.args.generation in
    let first : Option PartitionSum = c.in_ok-first.first in
    let result : Result ⊤ Refusal = c.compare_partitions.result in
    let begins : Begins file files c.new-walk.result c.in_ok-limit.limit =
    record { size = c.in_ok-limit.ensures.size; window = c.new-walk.ensures.window; place = c.new-walk.ensures.place } in
    let unchanged = c.in_ok-first.ensures.files ∙ c.in_ok-limit.ensures.files in
    let told = subst (λ (f : Option Files). OverFile f c.data_id-file.result (FindsPartition columns) c.new-walk.result c.next.new.self (Ok first)) c.in_ok-limit.ensures.files c.in_ok-first.ensures.told in
    let step = subst (λ (f : FileId). OverFile files f (FindsPartition columns) c.new-walk.result c.next.new.self (Ok first)) c.data_id-file.ensures told in
    let paths : c.new-paths.result ≡ record { file = index; root = c.args.root; way = None } =
    c.new-paths.ensures ∙ ap (λ (f : FileId). record { file = f; root = c.args.root; way = None }) c.partitions_id.ensures in
    let compared = subst (λ (f : Option Files). Compares columns c.data_id-file.result c.new-paths.result.file c.args.root c.next.new.self first (last_given c.new-paths.result.way) f result) unchanged
    c.compare_partitions.ensures.told in
    let beside = subst (λ (f : FileId). Compares columns f c.new-paths.result.file c.args.root c.next.new.self first (last_given c.new-paths.result.way) files result) c.data_id-file.ensures compared in
    let compares = subst (λ (p : Progress). Compares columns file p.file c.args.root c.next.new.self first (last_given p.way) files result) paths beside in
    checks_whole columns file index c.args.root files c.new-walk.result c.next.new.self c.in_ok-limit.limit first result begins step compares
