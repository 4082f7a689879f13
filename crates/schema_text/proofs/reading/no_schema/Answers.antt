use Rattle.std.proofs.Common.{inl, inr}
use Rattle.schema_text.proofs.Unique.{refused}
use Rattle.schema_text.proofs.reading.no_schema.Goals as goal

pub returns-in-BadText : goal.returns-in-BadText
returns-in-BadText c = λ bytes p s h w k. refused s bytes c.args.error h w p (λ m. elim c.in-BadText.is [ inl x ↦ (let e = x.1 in cc) | inr y ↦ elim y [ inl e ↦ cc | inr z ↦ elim z [ inl e ↦ cc | inr x ↦ (let e = x.1 in cc) ] ] ])
