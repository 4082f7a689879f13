-- What a check answers of the files, by how its steps ended.
use Rattle.std.proofs.Common.{◌≡◌, ℕ, Option, None, Some, IfSome, Result, Ok, Err, refl, subst, sym}
use Rattle.outside.specs.Files.{Files, bytes_of}
use Rattle.key_types.specs.Columns.{Columns, columns_of}
use Rattle.key_types.specs.declared.schema.Schema.{Schema}
use Rattle.data_file.specs.declared.reading.DataError.TheVariants as data_error
use Rattle.data_file.specs.declared.writer.Counts.{Counts}
use Rattle.table_files.specs.Names.{schema_id}
use Rattle.table_files.specs.SchemaFile.{IsSchemaFile}
use Rattle.table_files.specs.Standing.{StandFor}
use Rattle.table_files.specs.declared.error.FileError.{FileError}
use Rattle.table_files.specs.declared.error.FileError.TheVariants as file_error
use Rattle.table_files.proofs.SchemaLemmas.{one_schema}
use Rattle.table_reader.specs.declared.fault.TableFault.{TableFault}
use Rattle.table_reader.specs.Faults.{file_fault}
use Rattle.data_walk.specs.declared.refusal.Refusal.{Refusal}
use Rattle.data_walk.specs.declared.refusal.Refusal.TheVariants.{Clashes, Unread}
use Rattle.data_walk.specs.Refusals.{IsFault}
use Rattle.table_check.specs.declared.verdict.Verdict.{Verdict}
use Rattle.table_check.specs.Check.{Answers, Checks, ChecksFiles, StandForNone, verdict_of}
use Rattle.table_check.proofs.Joined.{FilesOf}
use Rattle.table_check.proofs.Judged.{Laws, refused, sound}

module _ (laws : Laws) (files : Files) (generation : ℕ) (columns : Columns)
    (schema : IsSchemaFile columns (bytes_of files (schema_id generation))) where
  none_stand : (e : Refusal) → (IsFault e → ⊥) → FilesOf columns generation (Err e) files
      → StandForNone files generation
  none_stand e apart told there table stands =
      let same = one_schema (bytes_of files (schema_id generation)) there columns stands.schema schema in
      apart (refused laws files generation columns table e told
      (subst (λ (c : Columns). StandFor files generation c table) same stands))

  judged : (steps : Result Counts Refusal) → FilesOf columns generation steps files
      → Checks files generation (verdict_of steps)
  judged (Ok counts) told = sound laws files generation columns counts schema told
  judged (Err (Clashes at)) told = none_stand (Clashes at) (λ f. f) told
  judged (Err (Unread (data_error.Damaged damage))) told = none_stand (Unread (data_error.Damaged damage))
      (λ f. f) told
  judged (Err (Unread data_error.StoreFault)) told = tt
  judged (Err (Unread data_error.NoMemory)) told = tt

answers : (files : Files) (generation : ℕ) (columns : Columns)
    → IsSchemaFile columns (bytes_of files (schema_id generation)) → (steps : Result Counts Refusal)
    → FilesOf columns generation steps files → Answers files generation (verdict_of steps)
answers files generation columns schema steps told there is =
    let same = one_schema (bytes_of files (schema_id generation)) columns there schema is in
    (steps, refl, subst (λ (c : Columns). FilesOf c generation steps files) same told)

-- ---- where the files are told

-- with the schema
pub checks_told : Laws → (files files' : Option Files) (generation : ℕ) (schema : Schema)
    (steps : Result Counts Refusal) (result : Result Verdict TableFault) → files' ≡ files
    → IfSome files (λ m. IsSchemaFile (columns_of schema) (bytes_of m (schema_id generation)))
    → IfSome files' (FilesOf (columns_of schema) generation steps) → result ≡ verdict_of steps
    → IfSome files (λ m. Checks m generation result)
checks_told laws None files' generation schema steps result same read told is = tt
checks_told laws (Some m) files' generation schema steps result same read told is =
    let ended = subst (λ (f : Option Files). IfSome f (FilesOf (columns_of schema) generation steps)) same told in
    subst (Checks m generation) (sym is) (judged laws m generation (columns_of schema) read steps ended)

pub answers_told : (files files' : Option Files) (generation : ℕ) (schema : Schema)
    (steps : Result Counts Refusal) (result : Result Verdict TableFault) → files' ≡ files
    → IfSome files (λ m. IsSchemaFile (columns_of schema) (bytes_of m (schema_id generation)))
    → IfSome files' (FilesOf (columns_of schema) generation steps) → result ≡ verdict_of steps
    → IfSome files (λ m. Answers m generation result)
answers_told None files' generation schema steps result same read told is = tt
answers_told (Some m) files' generation schema steps result same read told is =
    let ended = subst (λ (f : Option Files). IfSome f (FilesOf (columns_of schema) generation steps)) same told in
    subst (Answers m generation) (sym is) (answers m generation (columns_of schema) read steps ended)

-- where it wasn't read
fault_answers : (files : Files) (generation : ℕ) (e : FileError) → Answers files generation (Err (file_fault e))
fault_answers files generation file_error.StoreFault columns is =
    (Err (Unread data_error.StoreFault), refl, ChecksFiles.fault (Unread data_error.StoreFault) tt)
fault_answers files generation file_error.NoMemory columns is =
    (Err (Unread data_error.NoMemory), refl, ChecksFiles.fault (Unread data_error.NoMemory) tt)

pub fault_answers_told : (files : Option Files) (generation : ℕ) (e : FileError) (fault : TableFault)
    → fault ≡ file_fault e
    → IfSome files (λ m. Answers m generation (Err fault))
fault_answers_told None generation e fault is = tt
fault_answers_told (Some m) generation e fault is = subst (λ (f : TableFault). Answers m generation (Err f)) (sym is)
    (fault_answers m generation e)
