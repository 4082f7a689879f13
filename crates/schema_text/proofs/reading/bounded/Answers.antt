use Rattle.std.proofs.Common.{sym, ◌∙◌}
use Rattle.schema_text.specs.Parts.{columns_of_parts}
use Rattle.schema_text.proofs.Bounded.{kept}
use Rattle.schema_text.proofs.reading.bounded.Goals as goal

pub invariant_of-result : goal.invariant_of-result
invariant_of-result c = record {
  layout = kept (columns_of_parts c.args.parts) c.requires (sym c.has_few.ensures ∙ c.if-not-has_few.false) (sym c.is_flat.ensures ∙ c.if-not-is_flat.false);
}
