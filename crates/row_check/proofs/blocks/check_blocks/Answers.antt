use Rattle.std.proofs.Common.{◌≡◌, ◌∙◌, Bool, Option, None, Result, Ok, Err, min, ap, refl, sym, subst, rules}
use Rattle.std.specs.Prelude.{⊤}
use Rattle.outside.specs.Files.{Files}
use Rattle.outside.specs.declared.store.FileId.{FileId}
use Rattle.key_types.specs.Columns.{columns_of}
use Rattle.bti_nodes.specs.declared.damage.Cause.TheVariants.{BadHead}
use Rattle.bti_reader.specs.Ways.{Progress}
use Rattle.table_files.specs.Names.{data_id, rows_id}
use Rattle.data_walk.specs.declared.data_walk.DataWalk.{DataWalk}
use Rattle.data_walk.specs.declared.refusal.Refusal.{Refusal}
use Rattle.data_walk.specs.DataWalk.{Enters, OverFile}
use Rattle.data_walk.specs.Refusals.{IsFault, damaged_at}
use Rattle.row_check.proofs.Compared.{Begins, BlocksFound, PartitionFound, begins, partition_ended, partition_fault, partition_inside, partition_stops}
use Rattle.row_check.proofs.blocks.check_blocks.Goals as goal

pub returns-in_err-limit-clause-told : goal.returns-in_err-limit-clause-told
returns-in_err-limit-clause-told g c =
    let columns = columns_of c.args.schema.now in
    let files = g.K.Store.files c.args.store.now in
    let file : FileId = data_id c.args.generation in
    let rows : FileId = rows_id c.args.generation in
    let e : Refusal = c.in_err-limit.field-0.0 in
    let fault : IsFault e = subst IsFault (sym c.in_err-limit.ensures.stops) tt in
    let is : c.from_residual.result ≡ Err e = search rules in
    subst (λ (r : Result ⊤ Refusal). PartitionFound columns file rows c.args.position c.args.root files r) (sym is)
    (partition_fault columns file rows c.args.position c.args.root files e fault)

pub returns-in_err-_has_static-clause-told : goal.returns-in_err-_has_static-clause-told
returns-in_err-_has_static-clause-told g c =
    let columns = columns_of c.args.schema.now in
    let files = g.K.Store.files c.args.store.now in
    let file : FileId = data_id c.args.generation in
    let rows : FileId = rows_id c.args.generation in
    let e : Refusal = c.in_err-_has_static.field-0.0 in
    let least : c.min.result ≡ min c.args.position c.in_ok-limit.limit = search rules in
    let begun : Begins columns file rows c.args.position c.args.root files c.new-walk.result =
    begins columns file rows c.args.position c.args.root files c.new-walk.result c.in_ok-limit.limit c.min.result least c.new-walk.ensures.window c.new-walk.ensures.place c.in_ok-limit.ensures.size in
    let told = subst (λ (f : Option Files). OverFile f c.data_id-file.result (Enters columns) c.new-walk.result c.enter.new.self (Err e)) c.in_ok-limit.ensures.files c.in_err-_has_static.ensures.told in
    let over = subst (λ (f : FileId). OverFile files f (Enters columns) c.new-walk.result c.enter.new.self (Err e)) c.data_id-file.ensures told in
    let is : c.from_residual-in_err-_has_static.result ≡ Err e = search rules in
    subst (λ (r : Result ⊤ Refusal). PartitionFound columns file rows c.args.position c.args.root files r) (sym is)
    (partition_stops columns file rows c.args.position c.args.root files c.new-walk.result c.enter.new.self e begun over)

pub returns-in_default-clause-told : goal.returns-in_default-clause-told
returns-in_default-clause-told g c =
    let columns = columns_of c.args.schema.now in
    let files = g.K.Store.files c.args.store.now in
    let file : FileId = data_id c.args.generation in
    let rows : FileId = rows_id c.args.generation in
    let least : c.min.result ≡ min c.args.position c.in_ok-limit.limit = search rules in
    let begun : Begins columns file rows c.args.position c.args.root files c.new-walk.result =
    begins columns file rows c.args.position c.args.root files c.new-walk.result c.in_ok-limit.limit c.min.result least c.new-walk.ensures.window c.new-walk.ensures.place c.in_ok-limit.ensures.size in
    let told = subst (λ (f : Option Files). OverFile f c.data_id-file.result (Enters columns) c.new-walk.result c.enter.new.self (Ok c.in_ok-_has_static.field-0)) c.in_ok-limit.ensures.files
    c.in_ok-_has_static.ensures.told in
    let named = subst (λ (f : FileId). OverFile files f (Enters columns) c.new-walk.result c.enter.new.self (Ok c.in_ok-_has_static.field-0)) c.data_id-file.ensures told in
    let over = subst (λ (o : Option Bool). OverFile files file (Enters columns) c.new-walk.result c.enter.new.self (Ok o)) c.in_default.is named in
    let is : c.damage_at.result ≡ damaged_at c.args.position BadHead = search rules in
    partition_ended columns file rows c.args.position c.args.root files c.new-walk.result c.enter.new.self c.damage_at.result begun over is

pub returns-clause-told : goal.returns-clause-told
returns-clause-told g c =
    let columns = columns_of c.args.schema.now in
    let files = g.K.Store.files c.args.store.now in
    let file : FileId = data_id c.args.generation in
    let rows : FileId = rows_id c.args.generation in
    let inside : DataWalk = c.enter.new.self in
    let result : Result ⊤ Refusal = c.compare_blocks.result in
    let least : c.min.result ≡ min c.args.position c.in_ok-limit.limit = search rules in
    let begun : Begins columns file rows c.args.position c.args.root files c.new-walk.result =
    begins columns file rows c.args.position c.args.root files c.new-walk.result c.in_ok-limit.limit c.min.result least c.new-walk.ensures.window c.new-walk.ensures.place c.in_ok-limit.ensures.size in
    let unchanged = c.in_ok-_has_static.ensures.files ∙ c.in_ok-limit.ensures.files in
    let told = subst (λ (f : Option Files). OverFile f c.data_id-file.result (Enters columns) c.new-walk.result inside (Ok c.in_ok-_has_static.field-0)) c.in_ok-limit.ensures.files
    c.in_ok-_has_static.ensures.told in
    let named = subst (λ (f : FileId). OverFile files f (Enters columns) c.new-walk.result inside (Ok c.in_ok-_has_static.field-0)) c.data_id-file.ensures told in
    let over = subst (λ (o : Option Bool). OverFile files file (Enters columns) c.new-walk.result inside (Ok o)) c.in-Some.is named in
    let first : Progress = record { file = rows; root = c.args.root; way = None } in
    let paths : c.new-paths.result ≡ first =
    c.new-paths.ensures ∙ ap (λ (f : FileId). record { file = f; root = c.args.root; way = None }) c.rows_id.ensures in
    let compared = subst (λ (f : Option Files). BlocksFound columns c.data_id-file.result c.new-paths.result.file c.args.root f inside c.new-paths.result result) unchanged c.compare_blocks.ensures.told in
    let beside = subst (λ (f : FileId). BlocksFound columns f c.new-paths.result.file c.args.root files inside c.new-paths.result result) c.data_id-file.ensures compared in
    let found = subst (λ (p : Progress). BlocksFound columns file p.file c.args.root files inside p result) paths beside in
    partition_inside columns file rows c.args.position c.args.root files c.new-walk.result inside c.in-Some._has_static first result begun over refl found
