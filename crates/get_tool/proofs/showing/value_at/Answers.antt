use Rattle.std.proofs.Common.{◌∙◌, ℕ, List, Option, Some, IfSome, ap, subst, sym}
use Rattle.key_types.specs.Columns.{columns_of}
use Rattle.table_reader.specs.Gets.{bytes_in}
use Rattle.table_reader.specs.Reads.{IsAlwaysBounded}
use Rattle.get_tool.proofs.showing.value_at.Goals as goal

pub returns-in-Some-clause-reads : goal.returns-in-Some-clause-reads
returns-in-Some-clause-reads g c =
    let before = g.K.Store.reads c.args.store.now in
    let after = g.K.Store.reads c.get.new.store in
    subst (λ (k : Option (List ℕ)). IfSome (g.K.Store.files c.args.store.now) (λ m. IfSome c.args.table.now.footer
    (λ footer. IsAlwaysBounded (bytes_in (columns_of c.args.table.now.schema) m c.args.table.now.generation) footer c.args.key.now.partition k before after)))
    (ap Some c.as_slice.ensures ∙ sym c.in-Some.is)
    (subst (λ (p : List ℕ). IfSome (g.K.Store.files c.args.store.now) (λ m. IfSome c.args.table.now.footer
    (λ footer. IsAlwaysBounded (bytes_in (columns_of c.args.table.now.schema) m c.args.table.now.generation) footer p (Some c.as_slice.result.now) before after)))
    c.as_slice-partition.ensures c.get.ensures.within)
