use Rattle.std.proofs.Common.{sym, ◌∙◌, ap, subst}
use Rattle.key_types.specs.Columns.{columns_of}
use Rattle.schema_text.specs.Canonical.{canonical}
use Rattle.schema_text.specs.Grammar.{IsSchemaText}
use Rattle.schema_text.proofs.Unique.{apart, one, written}
use Rattle.schema_text.proofs.reading.read_canonical.Goals as goal

pub returns-else-branch : goal.returns-else-branch
returns-else-branch c = λ s h w k.
    let text = c.args.text.now in
    let same = one (columns_of c.in-Ok.schema) s text c.in-Ok.ensures (subst (IsSchemaText s) (sym w) (written s h)) in
    apart c.in_ok-is_canonical-in-Ok.field-0 (c.in_ok-is_canonical-in-Ok.ensures.1 (w ∙ ap canonical (sym same))) c.if-branch.false

pub returns-in-Err : goal.returns-in-Err
returns-in-Err c = c.no_schema.ensures c.args.text.now c.in-Err.ensures
