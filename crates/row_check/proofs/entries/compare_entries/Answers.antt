use Rattle.std.proofs.Common.{◌≡◌, ◌∙◌, ℕ, List, Option, IfSome, Result, Ok, Err, ap, length, sym, subst, arith, rules}
use Rattle.std.specs.Prelude.{◌≤◌, ⊤}
use Rattle.outside.specs.Files.{Files, bytes_of}
use Rattle.outside.specs.declared.store.FileId.{FileId}
use Rattle.outside.specs.declared.store.Part.TheVariants.{Partitions}
use Rattle.key_types.specs.Columns.{columns_of}
use Rattle.bti_reader.specs.declared.way.PathHit.{PathHit}
use Rattle.bti_reader.specs.Walks.{last_given}
use Rattle.bti_reader.specs.Ways.{Progress, Stands}
use Rattle.table_files.specs.Names.{data_id, partitions_id, rows_id}
use Rattle.data_walk.specs.declared.data_walk.DataWalk.{DataWalk}
use Rattle.data_walk.specs.declared.data_walk.PartitionSum.{PartitionSum}
use Rattle.data_walk.specs.declared.refusal.Refusal.{Refusal}
use Rattle.data_walk.specs.DataWalk.{FindsPartition, OverFile}
use Rattle.path_check.specs.Paths.{EndsPaths, GivesPath}
use Rattle.row_check.specs.Entries.{ChecksNumber}
use Rattle.row_check.proofs.Entered.{EntriesFound, comes_on, entries_clash, entries_end, entries_lack, entries_stop}
use Rattle.row_check.proofs.entries.compare_entries.Goals as goal

pub returns-in_err-sum-clause-told : goal.returns-in_err-sum-clause-told
returns-in_err-sum-clause-told g c =
    let a = c.args in
    let columns = columns_of a.schema.now in
    let files = g.K.Store.files a.store.now in
    let at = c.partitions in
    let e : Refusal = c.in_err-sum.field-0.0 in
    let told = subst (λ (f : Option Files). OverFile f c.data_id-file.result (FindsPartition columns) at.walk c.next.new.self (Err e)) at.invariant.same c.in_err-sum.ensures.told in
    let step = subst (λ (f : FileId). OverFile files f (FindsPartition columns) at.walk c.next.new.self (Err e)) c.data_id-file.ensures told in
    let is : c.from_residual.result ≡ Err e = search rules in
    subst (λ (r : Result ⊤ Refusal). EntriesFound columns a.generation a.root files a.walk.now a.paths.now r) (sym is)
    (entries_stop columns a.generation a.root files a.walk.now at.walk c.next.new.self a.paths.now at.paths e step at.invariant.came)

pub returns-in_err-hit-clause-told : goal.returns-in_err-hit-clause-told
returns-in_err-hit-clause-told g c =
    let a = c.args in
    let columns = columns_of a.schema.now in
    let files = g.K.Store.files a.store.now in
    let at = c.partitions in
    let walk : DataWalk = c.next.new.self in
    let sum : PartitionSum = c.in-Some.sum in
    let e : Refusal = c.in_err-hit.field-0.0 in
    let last = last_given at.paths.way in
    let given = last_given c.next_path.new.paths.way in
    let was = c.in_ok-sum.ensures in
    let unchanged = was.files ∙ at.invariant.same in
    let file : at.paths.file ≡ partitions_id a.generation = at.invariant.file ∙ c.requires.file in
    let told = subst (λ (f : Option Files). OverFile f c.data_id-file.result (FindsPartition columns) at.walk walk (Ok c.in_ok-sum.field-0)) at.invariant.same was.told in
    let named = subst (λ (f : FileId). OverFile files f (FindsPartition columns) at.walk walk (Ok c.in_ok-sum.field-0)) c.data_id-file.ensures told in
    let step = subst (λ (o : Option PartitionSum). OverFile files (data_id a.generation) (FindsPartition columns) at.walk walk (Ok o)) c.in-Some.is named in
    let there = subst (λ (f : Option Files). IfSome f (λ m. GivesPath Partitions (bytes_of m at.paths.file) a.root last given (Err e))) unchanged c.in_err-hit.ensures.told in
    let gives = subst (λ (f : FileId). IfSome files (λ m. GivesPath Partitions (bytes_of m f) a.root last given (Err e))) file there in
    let is : c.from_residual-in_err-hit.result ≡ Err e = search rules in
    subst (λ (r : Result ⊤ Refusal). EntriesFound columns a.generation a.root files a.walk.now a.paths.now r) (sym is)
    (entries_lack columns a.generation a.root files a.walk.now at.walk walk a.paths.now at.paths c.next_path.new.paths sum e step gives at.invariant.came)

pub returns-in_err-check_number-clause-told : goal.returns-in_err-check_number-clause-told
returns-in_err-check_number-clause-told g c =
    let a = c.args in
    let columns = columns_of a.schema.now in
    let files = g.K.Store.files a.store.now in
    let at = c.partitions in
    let walk : DataWalk = c.next.new.self in
    let sum : PartitionSum = c.in-Some.sum in
    let hit : PathHit = c.in_ok-hit.hit in
    let e : Refusal = c.in_err-check_number.field-0.0 in
    let last = last_given at.paths.way in
    let given = last_given c.next_path.new.paths.way in
    let was = c.in_ok-sum.ensures in
    let unchanged = was.files ∙ at.invariant.same in
    let file : at.paths.file ≡ partitions_id a.generation = at.invariant.file ∙ c.requires.file in
    let told = subst (λ (f : Option Files). OverFile f c.data_id-file.result (FindsPartition columns) at.walk walk (Ok c.in_ok-sum.field-0)) at.invariant.same was.told in
    let named = subst (λ (f : FileId). OverFile files f (FindsPartition columns) at.walk walk (Ok c.in_ok-sum.field-0)) c.data_id-file.ensures told in
    let step = subst (λ (o : Option PartitionSum). OverFile files (data_id a.generation) (FindsPartition columns) at.walk walk (Ok o)) c.in-Some.is named in
    let there = subst (λ (f : Option Files). IfSome f (λ m. GivesPath Partitions (bytes_of m at.paths.file) a.root last given (Ok hit))) unchanged c.in_ok-hit.ensures.told in
    let gives = subst (λ (f : FileId). IfSome files (λ m. GivesPath Partitions (bytes_of m f) a.root last given (Ok hit))) file there in
    let checked = subst (λ (f : Option Files). IfSome f (λ m. sum.position ≤ length (bytes_of m (data_id a.generation)) → ChecksNumber columns (bytes_of m (data_id a.generation)) (bytes_of m (rows_id a.generation))
    hit.node hit.number c.as_slice-key.result.now sum (Err e))) (c.in_ok-hit.ensures.files ∙ unchanged) c.in_err-check_number.ensures.told in
    let checks = subst (λ (k : List ℕ). IfSome files (λ m. sum.position ≤ length (bytes_of m (data_id a.generation)) → ChecksNumber columns (bytes_of m (data_id a.generation)) (bytes_of m (rows_id a.generation))
    hit.node hit.number k sum (Err e))) c.as_slice-key.ensures checked in
    let is : c.from_residual-in_err-check_number.result ≡ Err e = search rules in
    subst (λ (r : Result ⊤ Refusal). EntriesFound columns a.generation a.root files a.walk.now a.paths.now r) (sym is)
    (entries_clash columns a.generation a.root files a.walk.now at.walk walk a.paths.now at.paths c.next_path.new.paths sum hit e step gives checks at.invariant.came)

pub partitions-preserved : goal.partitions-preserved
partitions-preserved g c =
    let a = c.args in
    let columns = columns_of a.schema.now in
    let files = g.K.Store.files a.store.now in
    let at = c.partitions in
    let walk : DataWalk = c.next.new.self in
    let sum : PartitionSum = c.in-Some.sum in
    let hit : PathHit = c.in_ok-hit.hit in
    let last = last_given at.paths.way in
    let given = last_given c.next_path.new.paths.way in
    let was = c.in_ok-sum.ensures in
    let unchanged = was.files ∙ at.invariant.same in
    let file : at.paths.file ≡ partitions_id a.generation = at.invariant.file ∙ c.requires.file in
    let told = subst (λ (f : Option Files). OverFile f c.data_id-file.result (FindsPartition columns) at.walk walk (Ok c.in_ok-sum.field-0)) at.invariant.same was.told in
    let named = subst (λ (f : FileId). OverFile files f (FindsPartition columns) at.walk walk (Ok c.in_ok-sum.field-0)) c.data_id-file.ensures told in
    let step = subst (λ (o : Option PartitionSum). OverFile files (data_id a.generation) (FindsPartition columns) at.walk walk (Ok o)) c.in-Some.is named in
    let there = subst (λ (f : Option Files). IfSome f (λ m. GivesPath Partitions (bytes_of m at.paths.file) a.root last given (Ok hit))) unchanged c.in_ok-hit.ensures.told in
    let gives = subst (λ (f : FileId). IfSome files (λ m. GivesPath Partitions (bytes_of m f) a.root last given (Ok hit))) file there in
    let checked = subst (λ (f : Option Files). IfSome f (λ m. sum.position ≤ length (bytes_of m (data_id a.generation)) → ChecksNumber columns (bytes_of m (data_id a.generation)) (bytes_of m (rows_id a.generation))
    hit.node hit.number c.as_slice-key.result.now sum (Ok tt))) (c.in_ok-hit.ensures.files ∙ unchanged) c.in_ok-check_number.ensures.told in
    let checks = subst (λ (k : List ℕ). IfSome files (λ m. sum.position ≤ length (bytes_of m (data_id a.generation)) → ChecksNumber columns (bytes_of m (data_id a.generation)) (bytes_of m (rows_id a.generation))
    hit.node hit.number k sum (Ok tt))) c.as_slice-key.ensures checked in
    let all = c.in_ok-check_number.ensures in
    record {
      came = comes_on columns a.generation a.root files a.walk.now at.walk walk a.paths.now at.paths c.next_path.new.paths sum hit step gives checks at.invariant.came;
      file = ap (λ (p : Progress). p.file) c.in_ok-hit.ensures.same ∙ at.invariant.file;
      root = ap (λ (p : Progress). p.root) c.in_ok-hit.ensures.same ∙ at.invariant.root;
      honest = all.honest;
      stands = subst (λ (f : Option Files). Stands f c.next_path.new.paths) (sym all.files) c.in_ok-hit.ensures.stands;
      same = all.files ∙ (c.in_ok-hit.ensures.files ∙ unchanged);
      later = omega (arith, all.later, c.in_ok-hit.ensures.later, was.later, at.invariant.later);
    }

pub returns-clause-told : goal.returns-clause-told
returns-clause-told g c =
    let a = c.args in
    let columns = columns_of a.schema.now in
    let files = g.K.Store.files a.store.now in
    let at = c.partitions in
    let walk : DataWalk = c.next.new.self in
    let last = last_given at.paths.way in
    let result : Result ⊤ Refusal = c.check_end.result in
    let was = c.in_ok-sum.ensures in
    let unchanged = was.files ∙ at.invariant.same in
    let file : at.paths.file ≡ partitions_id a.generation = at.invariant.file ∙ c.requires.file in
    let root : at.paths.root ≡ a.root = at.invariant.root ∙ c.requires.root in
    let told = subst (λ (f : Option Files). OverFile f c.data_id-file.result (FindsPartition columns) at.walk walk (Ok c.in_ok-sum.field-0)) at.invariant.same was.told in
    let named = subst (λ (f : FileId). OverFile files f (FindsPartition columns) at.walk walk (Ok c.in_ok-sum.field-0)) c.data_id-file.ensures told in
    let step = subst (λ (o : Option PartitionSum). OverFile files (data_id a.generation) (FindsPartition columns) at.walk walk (Ok o)) c.in_default.is named in
    let there = subst (λ (f : Option Files). IfSome f (λ m. EndsPaths Partitions (bytes_of m at.paths.file) at.paths.root last result)) unchanged c.check_end.ensures.told in
    let own = subst (λ (f : FileId). IfSome files (λ m. EndsPaths Partitions (bytes_of m f) at.paths.root last result)) file there in
    let ends = subst (λ (n : ℕ). IfSome files (λ m. EndsPaths Partitions (bytes_of m (partitions_id a.generation)) n last result)) root own in
    entries_end columns a.generation a.root files a.walk.now at.walk walk a.paths.now at.paths result step ends at.invariant.came
