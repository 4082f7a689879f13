use Rattle.std.proofs.Common.{Err, subst}
use Rattle.key_types.specs.Columns.{columns_of}
use Rattle.scan_tool.specs.declared.error.ScanError.{ScanError}
use Rattle.scan_tool.specs.Steps.{PrintsEntries}
use Rattle.scan_tool.proofs.Turns.{ended, stopped_damage, stopped_store}
use Rattle.scan_tool.proofs.scanning.print_scan.Goals as goal

pub returns-in-Ok-clause-prints : goal.returns-in-Ok-clause-prints
returns-in-Ok-clause-prints g c =
    ended (columns_of c.args.table.now.schema) (g.K.Store.files c.args.store.now) c.args.table.now.generation c.args.scan.now c.print_entries.new.lines (g.O.Sink.written c.args.out.now) (g.O.Sink.written c.print_entries.new.out)
    (g.O.Sink.written c.end.new.out) c.end.result c.in-Ok.ensures.prints c.end.ensures.ends

pub returns-in-Err-StoreFault-clause-prints : goal.returns-in-Err-StoreFault-clause-prints
returns-in-Err-StoreFault-clause-prints g c =
    stopped_store (columns_of c.args.table.now.schema) (g.K.Store.files c.args.store.now) c.args.table.now.generation c.args.scan.now c.print_entries.new.lines (g.O.Sink.written c.args.out.now) (g.O.Sink.written c.print_entries.new.out)
    (g.O.Sink.written c.stop.new.out) c.stop.result
    (subst (λ (e : ScanError). PrintsEntries (columns_of c.args.table.now.schema) (g.K.Store.files c.args.store.now) c.args.table.now.generation c.args.scan.now c.print_entries.new.lines (g.O.Sink.written c.args.out.now)
    (g.O.Sink.written c.print_entries.new.out) (Err e)) c.in-Err-StoreFault.field-0-is c.in-Err-StoreFault.ensures.prints)
    c.stop.ensures.told

pub returns-in-Err-Damaged-clause-prints : goal.returns-in-Err-Damaged-clause-prints
returns-in-Err-Damaged-clause-prints g c =
    stopped_damage (columns_of c.args.table.now.schema) (g.K.Store.files c.args.store.now) c.args.table.now.generation c.args.scan.now c.print_entries.new.lines (g.O.Sink.written c.args.out.now) (g.O.Sink.written c.print_entries.new.out)
    (g.O.Sink.written c.stop-in-Err-Damaged.new.out) c.in-Err-Damaged.damage c.stop-in-Err-Damaged.result
    (subst (λ (e : ScanError). PrintsEntries (columns_of c.args.table.now.schema) (g.K.Store.files c.args.store.now) c.args.table.now.generation c.args.scan.now c.print_entries.new.lines (g.O.Sink.written c.args.out.now)
    (g.O.Sink.written c.print_entries.new.out) (Err e)) c.in-Err-Damaged.field-0-is c.in-Err-Damaged.ensures.prints)
    c.stop-in-Err-Damaged.ensures.told
