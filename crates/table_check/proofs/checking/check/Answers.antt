use Rattle.std.proofs.Common.{◌≡◌, Err, IfSome, Option, Result, refl, rules, subst, sym}
use Rattle.outside.specs.Files.{bytes_of}
use Rattle.key_types.specs.declared.schema.Schema.{Schema}
use Rattle.table_files.specs.Names.{schema_id}
use Rattle.table_files.specs.SchemaFile.{ReadsSchemaFile}
use Rattle.table_reader.specs.declared.fault.TableFault.{TableFault}
use Rattle.table_reader.specs.Faults.{file_fault}
use Rattle.table_check.specs.declared.verdict.Verdict.{Verdict}
use Rattle.table_check.specs.Check.{Answers}
use Rattle.table_check.proofs.Answered.{answers_told, checks_told, fault_answers_told}
use Rattle.table_check.proofs.Laws.{laws}
use Rattle.table_check.proofs.checking.check.Goals as goal

pub returns-in_err-schema-clause-answers : goal.returns-in_err-schema-clause-answers
returns-in_err-schema-clause-answers g c =
    let files = g.K.Store.files c.args.store.now in
    let e = c.in_err-schema.field-0.0 in
    let is : c.from_residual.result ≡ Err (file_fault e) = search rules in
    subst (λ (r : Result Verdict TableFault). IfSome files (λ m. Answers m c.args.generation r)) (sym is)
    (fault_answers_told files c.args.generation e (file_fault e) refl)

pub returns-clause-checks : goal.returns-clause-checks
returns-clause-checks g c =
    let files = g.K.Store.files c.args.store.now in
    let read = subst (λ (found : Option Schema). IfSome files
    (λ m. ReadsSchemaFile (bytes_of m (schema_id c.args.generation)) found)) c.in-Some.is
    c.in_ok-schema.ensures.told in
    checks_told laws files (g.K.Store.files c.read_schema.new.store) c.args.generation c.in-Some.schema
    c.check_files.result c.verdict_of.result
    c.in_ok-schema.ensures.files read c.check_files.ensures.told c.verdict_of.ensures

pub returns-clause-answers : goal.returns-clause-answers
returns-clause-answers g c =
    let files = g.K.Store.files c.args.store.now in
    let read = subst (λ (found : Option Schema). IfSome files
    (λ m. ReadsSchemaFile (bytes_of m (schema_id c.args.generation)) found)) c.in-Some.is
    c.in_ok-schema.ensures.told in
    answers_told files (g.K.Store.files c.read_schema.new.store) c.args.generation c.in-Some.schema
    c.check_files.result c.verdict_of.result
    c.in_ok-schema.ensures.files read c.check_files.ensures.told c.verdict_of.ensures
