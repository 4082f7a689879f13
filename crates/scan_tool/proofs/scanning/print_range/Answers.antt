use Rattle.std.proofs.Common.{option_copied}
use Rattle.key_types.specs.Columns.{columns_of}
use Rattle.scan_tool.proofs.Counting.{few_printed, opened_within}
use Rattle.scan_tool.proofs.Scanned.{opened_prints}
use Rattle.scan_tool.proofs.scanning.print_range.Goals as goal

pub returns-in-Ok-clause-prints : goal.returns-in-Ok-clause-prints
returns-in-Ok-clause-prints g c =
    opened_prints (g.K.Store.files c.args.store.now) c.args.generation (option_copied c.args.from) (option_copied c.args.to) (g.O.Sink.written c.args.out.now) (g.O.Sink.written c.print_in.new.out)
    (g.K.Store.files c.open.new.store) c.in-Ok.table.generation (columns_of c.in-Ok.table.schema) c.print_in.result c.in-Ok.ensures.files c.in-Ok.ensures.generation c.in-Ok.ensures.table c.print_in.ensures.prints

pub returns-in-Ok-clause-reads : goal.returns-in-Ok-clause-reads
returns-in-Ok-clause-reads g c =
    opened_within (g.K.Store.files c.args.store.now) (g.K.Store.files c.open.new.store) c.args.generation c.in-Ok.table.generation (columns_of c.in-Ok.table.schema) (option_copied c.args.from) (option_copied c.args.to)
    (g.K.Store.reads c.args.store.now) (g.K.Store.reads c.open.new.store) (g.K.Store.reads c.print_in.new.store) c.in-Ok.ensures.files c.in-Ok.ensures.generation c.in-Ok.ensures.table c.in-Ok.ensures.reads c.print_in.ensures.reads

pub returns-in-Err-clause-reads : goal.returns-in-Err-clause-reads
returns-in-Err-clause-reads g c =
    few_printed (g.K.Store.files c.args.store.now) c.args.generation (option_copied c.args.from) (option_copied c.args.to) (g.K.Store.reads c.args.store.now) (g.K.Store.reads c.open.new.store) c.in-Err.ensures.reads
