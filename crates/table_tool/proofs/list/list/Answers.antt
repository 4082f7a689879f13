use Rattle.std.proofs.Common.{List, ℕ, subst}
use Rattle.key_types.specs.Columns.{columns_of}
use Rattle.outside.specs.Told.{WhereTold}
use Rattle.table_tool.specs.Outcome.{PrintsText}
use Rattle.table_tool.proofs.ListLemmas.{rows_listed}
use Rattle.table_tool.proofs.list.list.Goals as goal

pub returns-in-Ok : goal.returns-in-Ok
returns-in-Ok g c =
    λ files faults reads.
    rows_listed (columns_of c.args.schema.now) c.args.cells _ _ _ _ _ _ _ _ c.in-Ok.text c.print.result c.in-Ok.ensures.told
    (subst (λ (t : List ℕ). WhereTold (g.O.Sink.written c.args.out.now) (g.O.Sink.written c.print.new.out) (PrintsText t c.print.result)) c.as_slice.ensures c.print.ensures.told)
    c.print.ensures.fault files faults reads c.print.ensures.cases
