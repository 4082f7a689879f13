use Rattle.std.proofs.Common.{◌≡◌, List, ℕ, ap, rules, subst}
use Rattle.outside.specs.Told.{WhereTold}
use Rattle.table_tool.specs.declared.status.Status.TheVariants as status
use Rattle.table_tool.specs.Outcome.{IsRefusal, PrintsText}
use Rattle.table_tool.specs.Request.{asked_of}
use Rattle.table_tool.proofs.LoadLemmas.{if_so, line_printed, refusal_said}
use Rattle.table_tool.proofs.load.load.Goals as goal

pub returns-in-Ok : goal.returns-in-Ok
returns-in-Ok g c =
    let e = c.in-Ok.ensures in
    line_printed (asked_of c.args.request) (g.S.Source.left c.args.source.now) (g.S.Source.left c.load_once.new.source) (g.S.Source.faults c.args.source.now) (g.S.Source.faults c.load_once.new.source)
    (g.O.Sink.written c.args.out.now) (g.O.Sink.written c.load_once.new.out) (g.O.Sink.written c.print.new.out) (g.O.Sink.faults c.args.out.now) (g.O.Sink.faults c.load_once.new.out) (g.O.Sink.faults c.print.new.out)
    (g.K.Store.files c.args.store.now) (g.K.Store.files c.load_once.new.store) (g.K.Store.faults c.args.store.now) (g.K.Store.faults c.load_once.new.store)
    (g.K.Store.reads c.args.store.now) (g.K.Store.reads c.load_once.new.store)
    c.in-Ok.line (record {
      exists_only = e.exists_only;
      exists = if_so (g.K.Store.files c.args.store.now) _ _ (λ old holds there. let all = holds there in (all.0, all.1, ap g.S.Source.left all.2, ap g.S.Source.faults all.2)) e.exists;
      unread = λ also. let same = e.unread also in (ap g.S.Source.left same, ap g.S.Source.faults same);
      loads = e.loads;
      answers = e.answers;
      early = e.early;
      full = e.full;
      room = e.room;
      stops = e.stops;
      kept = e.kept;
      changes = e.changes;
      later = e.later;
      store_later = e.store_later;
      sink_later = e.sink_later;
      fault = e.fault;
      store_fault = e.store_fault;
      sink_fault = e.sink_fault;
    })
    c.print.result c.print.ensures.cases
    (subst (λ (t : List ℕ). WhereTold (g.O.Sink.written c.load_once.new.out) (g.O.Sink.written c.print.new.out) (PrintsText t c.print.result)) c.as_slice.ensures c.print.ensures.told)
    c.print.ensures.later c.print.ensures.fault

pub returns-in-Err : goal.returns-in-Err
returns-in-Err g c =
    let e = c.in-Err.ensures in
    let refusal : IsRefusal c.in-Err.status = search rules in
    refusal_said (asked_of c.args.request) (g.S.Source.left c.args.source.now) (g.S.Source.left c.load_once.new.source) (g.S.Source.faults c.args.source.now) (g.S.Source.faults c.load_once.new.source)
    (g.O.Sink.written c.args.out.now) (g.O.Sink.written c.load_once.new.out) (g.O.Sink.written c.refuse.new.out) (g.O.Sink.faults c.args.out.now) (g.O.Sink.faults c.load_once.new.out) (g.O.Sink.faults c.refuse.new.out)
    (g.K.Store.files c.args.store.now) (g.K.Store.files c.load_once.new.store) (g.K.Store.faults c.args.store.now) (g.K.Store.faults c.load_once.new.store)
    (g.K.Store.reads c.args.store.now) (g.K.Store.reads c.load_once.new.store)
    c.in-Err.status (record {
      exists_only = e.exists_only;
      exists = if_so (g.K.Store.files c.args.store.now) _ _ (λ old holds there. let all = holds there in (all.0, all.1, ap g.S.Source.left all.2, ap g.S.Source.faults all.2)) e.exists;
      unread = λ also. let same = e.unread also in (ap g.S.Source.left same, ap g.S.Source.faults same);
      loads = e.loads;
      answers = e.answers;
      early = e.early;
      full = e.full;
      room = e.room;
      stops = e.stops;
      kept = e.kept;
      changes = e.changes;
      later = e.later;
      store_later = e.store_later;
      sink_later = e.sink_later;
      fault = e.fault;
      store_fault = e.store_fault;
      sink_fault = e.sink_fault;
    })
    c.refuse.ensures.later (λ (is : c.in-Err.status ≡ status.SinkFault). subst IsRefusal is refusal) c.refuse.result c.refuse.ensures.status c.refuse.ensures.told
