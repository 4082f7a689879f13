use Rattle.std.proofs.Common.{◌∙◌, Err, Ok, ap, refl}
use Rattle.key_types.specs.Columns.{columns_of}
use Rattle.table_reader.specs.Opened.{Opened}
use Rattle.scan_tool.proofs.Counting.{begun_within, few_ranged, unbegun_within}
use Rattle.scan_tool.proofs.Scanned.{begun_in, printed_from, unbegun, unloaded}
use Rattle.scan_tool.proofs.scanning.print_between.Goals as goal

pub returns-in-Err-clause-prints : goal.returns-in-Err-clause-prints
returns-in-Err-clause-prints g c =
    unloaded (columns_of c.args.table.now.schema) (g.K.Store.files c.args.store.now) c.args.table.now.generation c.args.from c.args.to (g.O.Sink.written c.args.out.now) (g.O.Sink.written c.args.out.now)
    c.load_footer.new.self.footer c.in-Err.e c.from.result c.from.ensures (λ e. c.in-Err.ensures.whole (ap (λ x. Err x) e)) c.in-Err.ensures.footer refl

pub returns-in-Ok-scan_between-clause-prints : goal.returns-in-Ok-scan_between-clause-prints
returns-in-Ok-scan_between-clause-prints g c =
    printed_from (columns_of c.args.table.now.schema) (g.K.Store.files c.args.store.now) c.args.table.now.generation c.args.from c.args.to (g.O.Sink.written c.args.out.now) (g.O.Sink.written c.print_scan.new.out)
    c.in-Ok-scan_between.scan (g.K.Store.files c.scan_between.new.store) (columns_of c.scan_between.new.self.schema) c.scan_between.new.self.generation c.print_scan.result
    (c.in-Ok-scan_between.ensures.files ∙ c.in-Ok.ensures.files)
    (ap (λ (t : Opened). columns_of t.schema) c.in-Ok-scan_between.ensures.same ∙ ap (λ (t : Opened). columns_of t.schema) c.in-Ok.ensures.same)
    (ap (λ (t : Opened). t.generation) c.in-Ok-scan_between.ensures.same ∙ ap (λ (t : Opened). t.generation) c.in-Ok.ensures.same)
    (begun_in (g.K.Store.files c.args.store.now) (g.K.Store.files c.load_footer.new.store) c.args.table.now c.load_footer.new.self c.args.from c.args.to (Ok c.in-Ok-scan_between.scan) c.in-Ok.ensures.files c.in-Ok.ensures.same
    c.in-Ok.ensures.footer c.in-Ok-scan_between.ensures.begins)
    c.print_scan.ensures.prints

pub returns-in-Err-scan_between-clause-prints : goal.returns-in-Err-scan_between-clause-prints
returns-in-Err-scan_between-clause-prints g c =
    unbegun (columns_of c.args.table.now.schema) (g.K.Store.files c.args.store.now) c.args.table.now.generation c.args.from c.args.to (g.O.Sink.written c.args.out.now) (g.O.Sink.written c.args.out.now)
    c.in-Err-scan_between.e c.from-in-Err-scan_between.result c.from-in-Err-scan_between.ensures (λ e. c.in-Err-scan_between.ensures.whole (ap (λ x. Err x) e))
    (begun_in (g.K.Store.files c.args.store.now) (g.K.Store.files c.load_footer.new.store) c.args.table.now c.load_footer.new.self c.args.from c.args.to (Err c.in-Err-scan_between.e) c.in-Ok.ensures.files c.in-Ok.ensures.same
    c.in-Ok.ensures.footer c.in-Err-scan_between.ensures.begins)
    refl

pub returns-in-Err-clause-reads : goal.returns-in-Err-clause-reads
returns-in-Err-clause-reads g c =
    few_ranged (g.K.Store.files c.args.store.now) c.args.table.now.generation (columns_of c.args.table.now.schema) c.args.from c.args.to (g.K.Store.reads c.args.store.now) (g.K.Store.reads c.load_footer.new.store)
    c.in-Err.ensures.reads

pub returns-in-Ok-scan_between-clause-reads : goal.returns-in-Ok-scan_between-clause-reads
returns-in-Ok-scan_between-clause-reads g c =
    begun_within (g.K.Store.files c.args.store.now) (g.K.Store.files c.load_footer.new.store) (g.K.Store.files c.scan_between.new.store) c.args.table.now c.load_footer.new.self c.scan_between.new.self c.args.from c.args.to
    c.in-Ok-scan_between.scan (g.K.Store.reads c.args.store.now) (g.K.Store.reads c.load_footer.new.store) (g.K.Store.reads c.scan_between.new.store) (g.K.Store.reads c.print_scan.new.store)
    c.in-Ok.ensures.files c.in-Ok-scan_between.ensures.files c.in-Ok.ensures.same c.in-Ok-scan_between.ensures.same c.in-Ok.ensures.footer c.in-Ok.ensures.reads
    c.in-Ok-scan_between.ensures.within c.in-Ok-scan_between.ensures.unread c.in-Ok-scan_between.ensures.begins c.print_scan.ensures.reads

pub returns-in-Err-scan_between-clause-reads : goal.returns-in-Err-scan_between-clause-reads
returns-in-Err-scan_between-clause-reads g c =
    unbegun_within (g.K.Store.files c.args.store.now) (g.K.Store.files c.load_footer.new.store) c.args.table.now c.load_footer.new.self c.args.from c.args.to (g.K.Store.reads c.args.store.now)
    (g.K.Store.reads c.load_footer.new.store) (g.K.Store.reads c.scan_between.new.store) c.in-Ok.ensures.files c.in-Ok.ensures.same c.in-Ok.ensures.footer c.in-Ok.ensures.reads
    c.in-Err-scan_between.ensures.within c.in-Err-scan_between.ensures.unread
