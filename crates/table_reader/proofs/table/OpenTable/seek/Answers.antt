use Rattle.std.proofs.Common.{Err, Ok, ap, option_copied, subst}
use Rattle.std.proofs.lemmas.Result.{err_from_is_err_and}
use Rattle.table_reader.specs.Opened.{Opened}
use Rattle.table_reader.proofs.SeekBounds.{ScanWithin, scan_within}
use Rattle.table_reader.proofs.Seeks.{SeekTold, seek_begins, seek_stops}
use Rattle.table_reader.proofs.table.OpenTable.seek.Goals as goal

pub returns-in_err-start-clause-begins : goal.returns-in_err-start-clause-begins
returns-in_err-start-clause-begins g c =
    let e = err_from_is_err_and c.from_residual.result c.from_residual.ensures.1 in
    rw e.1
    (
    subst (λ (t : Opened). SeekTold (g.K.Store.files c.args.store.now) t c.unwrap-footer.result c.in-Some.bound.now (option_copied c.args.from) (Err e.0)) c.self.view_is
    (seek_stops (g.K.Store.files c.args.store.now) (record { generation = c.self.inside.generation; schema = c.self.inside.schema; footer = c.self.inside.footer; pages = c.self.inside.pages })
    c.unwrap-footer.result c.in-Some.bound.now (option_copied c.args.from) c.in_err-start.field-0.0 e.0 (ap option_copied c.in-Some.is) c.unwrap-footer.ensures c.if-footer-eq0.false e.2 c.in_err-start.ensures.seeks)
    )

pub returns-clause-begins : goal.returns-clause-begins
returns-clause-begins g c =
    subst (λ (t : Opened). SeekTold (g.K.Store.files c.args.store.now) t c.unwrap-footer.result c.in-Some.bound.now (option_copied c.args.from) (Ok c.in_ok-start.start)) c.self.view_is
    (seek_begins (g.K.Store.files c.args.store.now) (record { generation = c.self.inside.generation; schema = c.self.inside.schema; footer = c.self.inside.footer; pages = c.self.inside.pages })
    c.unwrap-footer.result c.in-Some.bound.now (option_copied c.args.from) c.in_ok-start.start (ap option_copied c.in-Some.is) c.unwrap-footer.ensures c.if-footer-eq0.false c.in_ok-start.ensures.seeks)

pub returns-in_err-start-clause-within : goal.returns-in_err-start-clause-within
returns-in_err-start-clause-within g c =
    subst (λ (t : Opened). ScanWithin (g.K.Store.files c.args.store.now) t (option_copied c.args.from) (g.K.Store.reads c.args.store.now) (g.K.Store.reads c.search.new.store)) c.self.view_is
    (scan_within (g.K.Store.files c.args.store.now) (record { generation = c.self.inside.generation; schema = c.self.inside.schema; footer = c.self.inside.footer; pages = c.self.inside.pages })
    c.unwrap-footer.result c.in-Some.bound.now (option_copied c.args.from) (g.K.Store.reads c.args.store.now) (g.K.Store.reads c.search.new.store) (ap option_copied c.in-Some.is) c.unwrap-footer.ensures c.search.ensures.within)

pub returns-clause-within : goal.returns-clause-within
returns-clause-within g c =
    subst (λ (t : Opened). ScanWithin (g.K.Store.files c.args.store.now) t (option_copied c.args.from) (g.K.Store.reads c.args.store.now) (g.K.Store.reads c.search.new.store)) c.self.view_is
    (scan_within (g.K.Store.files c.args.store.now) (record { generation = c.self.inside.generation; schema = c.self.inside.schema; footer = c.self.inside.footer; pages = c.self.inside.pages })
    c.unwrap-footer.result c.in-Some.bound.now (option_copied c.args.from) (g.K.Store.reads c.args.store.now) (g.K.Store.reads c.search.new.store) (ap option_copied c.in-Some.is) c.unwrap-footer.ensures c.search.ensures.within)
