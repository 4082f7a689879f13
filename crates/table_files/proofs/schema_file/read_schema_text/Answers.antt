use Rattle.std.proofs.Common.{◌∙◌, Option, Ok, sym, subst}
use Rattle.std.proofs.lemmas.Bool.Decides.{Decides-eqb}
use Rattle.std.proofs.lemmas.Slice.Eq.{slice_eq-Decides}
use Rattle.key_types.specs.declared.schema.Schema.{Schema}
use Rattle.schema_text.specs.Answers.{ReadsCanonical}
use Rattle.table_files.proofs.SchemaLemmas.{no_canonical, no_text, other_version}
use Rattle.table_files.proofs.schema_file.read_schema_text.Goals as goal

pub returns-in_default : goal.returns-in_default
returns-in_default c = no_text c.args.bytes.now c.in_default.ensures

pub returns-in_default-2 : goal.returns-in_default-2
returns-in_default-2 c =
    let parts = c.in-Some.ensures in
    no_canonical c.args.bytes.now c.in-Some.line.now c.in-Some.text.now parts.0 parts.1
    (subst (λ (o : Option Schema). ReadsCanonical c.in-Some.text.now (Ok o)) c.in_default-2.is c.in_ok-schema.ensures)

pub returns-else-eq : goal.returns-else-eq
returns-else-eq c =
    let parts = c.in-Some.ensures in
    other_version c.args.bytes.now c.in-Some.line.now c.in-Some.text.now parts.0 parts.1 c.in-Some-2.schema c.in-Some-2.schema.layout
    (subst (λ (o : Option Schema). ReadsCanonical c.in-Some.text.now (Ok o)) c.in-Some-2.is c.in_ok-schema.ensures)
    (λ same. let told = (slice_eq-Decides Decides-eqb c.in-Some.line.now c.version_line.result.now c.eq.result c.eq.ensures).1 (same ∙ sym c.version_line.ensures) in cc)
