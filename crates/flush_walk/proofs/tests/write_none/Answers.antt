use Rattle.std.proofs.Common.{◌≡◌, ℕ, List, false, None, Some, refl, sym, subst}
use Rattle.std.specs.FinMap as map
use Rattle.outside.specs.Files.{Files, file_cmp}
use Rattle.outside.specs.declared.store.FileId.{FileId}
use Rattle.table_files.specs.Names.{data_id, partitions_id, rows_id, schema_id}
use Rattle.key_types.specs.Columns.{columns_of}
use Rattle.table_files.specs.There.{any_there}
use Rattle.flush_walk.specs.Given.{nothing_given}
use Rattle.flush_walk.proofs.tests.write_none.Goals as goal

none_there : any_there 1 map.empty ≡ false
none_there =
    let get : (q : FileId) → map.get {X = List ℕ} {R = file_cmp} map.empty q ≡ None = map.get-empty file_cmp in
    rw (get (data_id 1), get (partitions_id 1), get (rows_id 1), get (schema_id 1)) refl

pub finish-requires : goal.finish-requires
finish-requires c =
    let none : any_there 1 c.args.store.now.files ≡ false = subst (λ (m : Files). any_there 1 m ≡ false) (sym c.requires) none_there in
    (nothing_given 1 (columns_of c.args.schema.now) (Some c.args.store.now.files), c.in_ok-writer.ensures (Some c.args.store.now.files) none)
