use Rattle.std.proofs.Common.{ap, arith, option_copied, refl}
use Rattle.key_types.specs.Columns.{columns_of}
use Rattle.scan_tool.proofs.Counting.{few_named, named_within}
use Rattle.scan_tool.proofs.Scanned.{unread_in}
use Rattle.scan_tool.proofs.scanning.print_in.Goals as goal

pub returns-in-Err-clause-prints : goal.returns-in-Err-clause-prints
returns-in-Err-clause-prints g c =
    unread_in (columns_of c.args.table.now.schema) (g.K.Store.files c.args.store.now) c.args.table.now.generation (option_copied c.args.from) (option_copied c.args.to) (g.O.Sink.written c.args.out.now)
    (g.O.Sink.written c.args.out.now) (columns_of c.schema.result.now) c.in-Err.e c.from.result (ap columns_of c.schema.ensures) c.from.ensures c.in-Err.ensures refl

pub returns-in-Ok-clause-reads : goal.returns-in-Ok-clause-reads
returns-in-Ok-clause-reads g c =
    named_within (g.K.Store.files c.args.store.now) c.args.table.now.generation (columns_of c.args.table.now.schema) (columns_of c.schema.result.now) (option_copied c.args.from) (option_copied c.args.to)
    c.in-Ok.lower c.in-Ok.upper (g.K.Store.reads c.args.store.now) (g.K.Store.reads c.print_between.new.store) (ap columns_of c.schema.ensures) c.in-Ok.ensures.0 c.in-Ok.ensures.1 c.print_between.ensures.reads

pub returns-in-Err-clause-reads : goal.returns-in-Err-clause-reads
returns-in-Err-clause-reads g c =
    few_named (g.K.Store.files c.args.store.now) c.args.table.now.generation (columns_of c.args.table.now.schema) (option_copied c.args.from) (option_copied c.args.to) (g.K.Store.reads c.args.store.now)
    (g.K.Store.reads c.args.store.now) (omega arith)
