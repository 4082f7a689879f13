use Rattle.std.proofs.Common.{◌≡◌, ◌⊎◌, ◌∙◌, List, [], ℕ, Some, Err, ap, arith, inl, inr, refl, subst}
use Rattle.outside.specs.Told.{WhereTold}
use Rattle.table_tool.specs.declared.status.Status.{Status}
use Rattle.table_tool.specs.declared.status.Status.TheVariants as status
use Rattle.table_tool.specs.Loading.{StopsLoad}
use Rattle.table_tool.specs.Outside.{outside_of}
use Rattle.table_tool.specs.Generating.{GenEnds, script_bytes}
use Rattle.table_tool.specs.Outcome.{IsRefusal, PrintsText}
use Rattle.table_tool.specs.Request.{asked_of}
use Rattle.table_tool.proofs.GenLemmas.{line_ends, refusal_ends}
use Rattle.table_tool.proofs.LoadLemmas.{if_so}
use Rattle.table_tool.proofs.RunLemmas.{gen_memory}
use Rattle.table_tool.proofs.generate.generate.Goals as goal

pub returns-in_default : goal.returns-in_default
returns-in_default g c =
    λ left faults.
    gen_memory [] left faults (g.O.Sink.written c.args.out.now) (g.O.Sink.faults c.args.out.now) (g.K.Store.files c.args.store.now) (g.K.Store.faults c.args.store.now)
    (g.K.Store.reads c.args.store.now) (script_bytes c.args.request.script) (asked_of c.args.request.load)

pub returns-in-Ok-load_once : goal.returns-in-Ok-load_once
returns-in-Ok-load_once g c =
    λ left faults.
    let e = c.in-Ok-load_once.ensures in
    subst (λ (b : List ℕ). GenEnds b (asked_of c.args.request.load)
    (outside_of left faults (g.O.Sink.written c.args.out.now) (g.O.Sink.faults c.args.out.now) (g.K.Store.files c.args.store.now) (g.K.Store.faults c.args.store.now) (g.K.Store.reads c.args.store.now))
    (outside_of left faults (g.O.Sink.written c.print.new.out) (g.O.Sink.faults c.print.new.out) (g.K.Store.files c.load_once.new.store) (g.K.Store.faults c.load_once.new.store) (g.K.Store.reads c.load_once.new.store)) c.print.result) (c.new-source.ensures ∙ c.into_vec.ensures ∙ c.in-Ok.ensures)
    (line_ends c.new-source.result (asked_of c.args.request.load) left (Some c.load_once.new.source) faults (g.O.Sink.written c.args.out.now) (g.O.Sink.written c.print.new.out) (g.O.Sink.faults c.args.out.now) (g.O.Sink.faults c.print.new.out)
    (g.K.Store.files c.args.store.now) (g.K.Store.files c.load_once.new.store) (g.K.Store.faults c.args.store.now) (g.K.Store.faults c.load_once.new.store)
    (g.K.Store.reads c.args.store.now) (g.K.Store.reads c.load_once.new.store)
    c.in-Ok-load_once.line (record {
      exists_only = e.exists_only;
      exists = if_so (g.K.Store.files c.args.store.now) _ _ (λ old holds there. let all = holds there in (all.0, all.1, ap Some all.2, refl)) e.exists;
      unread = λ also. (ap Some (e.unread also), refl);
      loads = e.loads;
      answers = tt;
      early = e.early;
      full = e.full;
      room = e.room;
      stops = e.stops;
      kept = e.kept;
      changes = e.changes;
      later = e.later;
      store_later = e.store_later;
      sink_later = omega arith;
      fault = e.fault;
      store_fault = e.store_fault;
      sink_fault = λ also. absurd (let h = e.sink_fault also in omega (arith, h));
    })
    c.print.result c.print.ensures.cases
    (subst (λ (t : List ℕ). WhereTold (g.O.Sink.written c.args.out.now) (g.O.Sink.written c.print.new.out) (PrintsText t c.print.result)) c.as_slice.ensures c.print.ensures.told)
    c.print.ensures.later c.print.ensures.fault)

-- a sink that never fails has no fault, and all other ends but memory's are refusals
stopped : (s : Status) → StopsLoad s → (s ≡ status.SinkFault → ⊥) → IsRefusal s ⊎ (s ≡ status.NoMemory)
stopped status.Ok stops sunk = absurd stops
stopped status.Usage stops sunk = absurd stops
stopped status.Key stops sunk = absurd stops
stopped (status.BadLine line cause) stops sunk = inl tt
stopped (status.Full line) stops sunk = inl tt
stopped status.SourceFault stops sunk = inl tt
stopped status.SinkFault stops sunk = absurd (sunk refl)
stopped status.StoreFault stops sunk = inl tt
stopped (status.Damaged damage) stops sunk = absurd stops
stopped status.Unfinished stops sunk = absurd stops
stopped status.Exists stops sunk = inl tt
stopped status.TooLarge stops sunk = inl tt
stopped (status.Unsound mismatch) stops sunk = absurd stops
stopped status.NoMemory stops sunk = inr refl

pub refuse_or_end-requires : goal.refuse_or_end-requires
refuse_or_end-requires g c =
    stopped c.in-Err.status c.in-Err.ensures.stops (λ also. (let h = c.in-Err.ensures.sink_fault (ap Err also) in omega (arith, h)))

pub returns : goal.returns
returns g c =
    λ left faults.
    let e = c.in-Err.ensures in
    subst (λ (b : List ℕ). GenEnds b (asked_of c.args.request.load)
    (outside_of left faults (g.O.Sink.written c.args.out.now) (g.O.Sink.faults c.args.out.now) (g.K.Store.files c.args.store.now) (g.K.Store.faults c.args.store.now) (g.K.Store.reads c.args.store.now))
    (outside_of left faults (g.O.Sink.written c.refuse_or_end.new.out) (g.O.Sink.faults c.refuse_or_end.new.out) (g.K.Store.files c.load_once.new.store) (g.K.Store.faults c.load_once.new.store) (g.K.Store.reads c.load_once.new.store)) c.refuse_or_end.result) (c.new-source.ensures ∙ c.into_vec.ensures ∙ c.in-Ok.ensures)
    (refusal_ends c.new-source.result (asked_of c.args.request.load) left (Some c.load_once.new.source) faults (g.O.Sink.written c.args.out.now) (g.O.Sink.written c.refuse_or_end.new.out) (g.O.Sink.faults c.args.out.now) (g.O.Sink.faults c.refuse_or_end.new.out)
    (g.K.Store.files c.args.store.now) (g.K.Store.files c.load_once.new.store) (g.K.Store.faults c.args.store.now) (g.K.Store.faults c.load_once.new.store)
    (g.K.Store.reads c.args.store.now) (g.K.Store.reads c.load_once.new.store)
    c.in-Err.status (record {
      exists_only = e.exists_only;
      exists = if_so (g.K.Store.files c.args.store.now) _ _ (λ old holds there. let all = holds there in (all.0, all.1, ap Some all.2, refl)) e.exists;
      unread = λ also. (ap Some (e.unread also), refl);
      loads = e.loads;
      answers = tt;
      early = e.early;
      full = e.full;
      room = e.room;
      stops = e.stops;
      kept = e.kept;
      changes = e.changes;
      later = e.later;
      store_later = e.store_later;
      sink_later = omega arith;
      fault = e.fault;
      store_fault = e.store_fault;
      sink_fault = λ also. absurd (let h = e.sink_fault also in omega (arith, h));
    })
    c.refuse_or_end.ensures.later (λ also. absurd (let h = e.sink_fault (ap Err also) in omega (arith, h))) (λ also. absurd (let h = e.fault (ap Err also) in omega (arith, h))) c.refuse_or_end.result c.refuse_or_end.ensures.status c.refuse_or_end.ensures.told)
