use Rattle.std.proofs.Common.{rules}
use Rattle.key_types.specs.Columns.{columns_of}
use Rattle.table_tool.proofs.ListLemmas.{full_fills, full_never, full_told}
use Rattle.table_tool.proofs.list.list_source.Goals as goal

pub returns-in-Err-Full-clause-told : goal.returns-in-Err-Full-clause-told
returns-in-Err-Full-clause-told g c =
    full_told (columns_of c.args.schema.now) c.args.cells (g.S.Source.left c.args.source.now) c.in-Ok.script c.in-Err-Full.line c.in-Ok.ensures.told

pub returns-in-Err-Full-clause-full : goal.returns-in-Err-Full-clause-full
returns-in-Err-Full-clause-full g c =
    full_fills (columns_of c.args.schema.now) c.args.cells (g.S.Source.left c.args.source.now) c.in-Ok.script c.in-Err-Full.line c.in-Ok.ensures.told
    (c.in-Err-Full.ensures.full c.in-Err-Full.line (search rules))

pub returns-in-Err-Full-clause-room : goal.returns-in-Err-Full-clause-room
returns-in-Err-Full-clause-room g c =
    full_never (columns_of c.args.schema.now) c.args.cells (g.S.Source.left c.args.source.now) c.in-Ok.script c.in-Err-Full.line c.in-Ok.ensures.told
    (λ room. c.in-Err-Full.ensures.room room c.in-Err-Full.line (search rules))
