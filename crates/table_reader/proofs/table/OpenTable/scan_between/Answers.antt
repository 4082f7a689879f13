use Rattle.std.proofs.Common.{◌≡◌, ◌∙◌, Option, ap, option_copied, rules, subst, sym}
use Rattle.outside.specs.Files.{Files}
use Rattle.table_reader.specs.Opened.{Opened}
use Rattle.table_reader.specs.Ranges.{scanning_of}
use Rattle.table_reader.specs.Scans.{ScanStands}
use Rattle.table_reader.proofs.Scanning.{scan_begins, scan_reads, scan_stands}
use Rattle.table_reader.proofs.table.OpenTable.scan_between.Goals as goal

pub returns-clause-begins : goal.returns-clause-begins
returns-clause-begins g c =
    let named : option_copied c.as_ref.result ≡ c.args.from = search rules in
    let same = ap (λ (t : Opened). t.generation) (c.self.view_is ∙ c.seek.ensures.same) in
    scan_begins (g.K.Store.files c.args.store.now) (g.K.Store.files c.seek.new.store) c.args.self.now c.self.inside.generation c.args.from c.args.to c.in_ok-start.start c.in_ok-walk.walk
    (option_copied c.as_ref.result) c.seek.ensures.files same named c.in_ok-start.ensures.begins c.in_ok-walk.ensures.begins

pub returns-clause-scan : goal.returns-clause-scan
returns-clause-scan g c =
    let same = ap (λ (t : Opened). t.generation) (c.self.view_is ∙ c.seek.ensures.same) in
    subst (λ (files : Option Files). ScanStands files c.args.self.now.generation (scanning_of c.in_ok-walk.walk)) (sym c.begin.ensures.files)
    (scan_stands (g.K.Store.files c.args.store.now) (g.K.Store.files c.seek.new.store) c.args.self.now c.self.inside.generation c.args.from c.args.to c.in_ok-start.start c.in_ok-walk.walk same c.in_ok-walk.ensures.begins)

pub returns-clause-reads : goal.returns-clause-reads
returns-clause-reads g c =
    let named : option_copied c.as_ref.result ≡ c.args.from = search rules in
    scan_reads (g.K.Store.files c.args.store.now) c.args.self.now c.args.from (option_copied c.as_ref.result) (g.K.Store.reads c.args.store.now) (g.K.Store.reads c.seek.new.store) (g.K.Store.reads c.begin.new.store)
    named c.begin.ensures.reads c.in_ok-start.ensures.reads
