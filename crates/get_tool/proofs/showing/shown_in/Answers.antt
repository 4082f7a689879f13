use Rattle.std.proofs.Common.{ap, arith}
use Rattle.key_types.specs.Columns.{columns_of}
use Rattle.get_tool.proofs.Found.{none_named}
use Rattle.get_tool.proofs.ShowReads.{few_named, named_within}
use Rattle.get_tool.proofs.showing.shown_in.Goals as goal

pub returns-in-Err-clause-shows : goal.returns-in-Err-clause-shows
returns-in-Err-clause-shows g c =
    none_named (g.K.Store.files c.args.store.now) c.args.table.now.generation (columns_of c.args.table.now.schema) (columns_of c.schema.result.now) c.args.text.now c.in-Err.e c.from.result
    (ap columns_of c.schema.ensures) c.from.ensures c.in-Err.ensures

pub returns-in-Ok-clause-reads : goal.returns-in-Ok-clause-reads
returns-in-Ok-clause-reads g c =
    named_within (g.K.Store.files c.args.store.now) c.args.table.now.generation (columns_of c.args.table.now.schema) (columns_of c.schema.result.now) c.args.text.now c.in-Ok.key
    (g.K.Store.reads c.args.store.now) (g.K.Store.reads c.line_at.new.store) (ap columns_of c.schema.ensures) c.in-Ok.ensures c.line_at.ensures.reads

pub returns-in-Err-clause-reads : goal.returns-in-Err-clause-reads
returns-in-Err-clause-reads g c =
    few_named (g.K.Store.files c.args.store.now) c.args.table.now.generation (columns_of c.args.table.now.schema) c.args.text.now (g.K.Store.reads c.args.store.now) (g.K.Store.reads c.args.store.now) (omega arith)
