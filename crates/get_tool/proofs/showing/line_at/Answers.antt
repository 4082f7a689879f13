use Rattle.std.proofs.Common.{◌∙◌, ap}
use Rattle.key_types.specs.Columns.{columns_of}
use Rattle.get_tool.proofs.Found.{line_shown}
use Rattle.get_tool.proofs.showing.line_at.Goals as goal

pub returns-in-Ok-found_line-clause-line : goal.returns-in-Ok-found_line-clause-line
returns-in-Ok-found_line-clause-line g c =
    line_shown (g.K.Store.files c.args.store.now) c.args.table.now.generation (columns_of c.args.table.now.schema) (columns_of c.schema.result.now) c.args.key.now c.in-Ok.found c.in-Ok-found_line.line
    (ap columns_of (c.schema.ensures ∙ c.in-Ok.ensures.schema)) c.in-Ok-found_line.ensures c.in-Ok.ensures.found
