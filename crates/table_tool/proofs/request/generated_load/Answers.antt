use Rattle.std.proofs.Common.{◌≡◌, Err, rules, subst, sym}
use Rattle.std.specs.Prelude.{IfErr}
use Rattle.command_line.specs.declared.command.WordsError.TheVariants as error
use Rattle.key_types.specs.Columns.{columns_of}
use Rattle.table_tool.specs.Request.{generated_bounds, generated_schema}
use Rattle.table_tool.proofs.Generated.{bounds_memory, schema_memory}
use Rattle.table_tool.proofs.RequestLemmas.{short_schema}
use Rattle.table_tool.proofs.request.generated_load.Goals as goal

pub returns-in_err-schema-clause-memory : goal.returns-in_err-schema-clause-memory
returns-in_err-schema-clause-memory c =
    let is : c.from_residual.result ≡ Err c.in_err-schema.field-0.0 = search rules in
    subst (λ r. IfErr r (λ e. e ≡ error.NoMemory)) (sym is) (schema_memory c.law_schema_texts.ensures c.in_err-schema.field-0.0 c.in_err-schema.ensures)

pub returns-in_err-bounds-clause-memory : goal.returns-in_err-bounds-clause-memory
returns-in_err-bounds-clause-memory c =
    let is : c.from_residual-in_err-bounds.result ≡ Err c.in_err-bounds.field-0.0 = search rules in
    subst (λ r. IfErr r (λ e. e ≡ error.NoMemory)) (sym is)
    (bounds_memory c.law_schema_texts.ensures (columns_of c.in_ok-schema.schema) c.in_ok-schema.ensures c.in_err-bounds.field-0.0 c.in_err-bounds.ensures)

pub returns-clause-can : goal.returns-clause-can
returns-clause-can c = record {
  schema = short_schema generated_schema _ c.in_ok-schema.ensures;
  bounds = (generated_bounds, c.in_ok-bounds.ensures);
  cells = c.requires.cells;
  some = c.requires.readers.0;
  eight = c.requires.readers.1;
}
