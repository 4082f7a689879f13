use Rattle.std.proofs.Common.{◌≡◌, List, ℕ, Ok, Err, ap, refl, rules, subst}
use Rattle.std.specs.Prelude.{IfSome}
use Rattle.outside.specs.Told.{WhereTold}
use Rattle.get_tool.specs.declared.error.GetError.{GetError}
use Rattle.get_tool.specs.declared.error.GetError.TheVariants as get_error
use Rattle.get_tool.specs.ShowReads.{ShowsWithin}
use Rattle.get_tool.specs.Shown.{Shows}
use Rattle.table_tool.specs.First.{first_generation}
use Rattle.table_tool.specs.Outcome.{PrintsText}
use Rattle.table_tool.specs.declared.status.Status.TheVariants as status
use Rattle.table_tool.proofs.GetLemmas.{get_ends, never}
use Rattle.table_tool.proofs.get.get.Goals as goal

pub returns-in-Ok : goal.returns-in-Ok
returns-in-Ok g c =
    λ left faults.
    get_ends left faults _ _ _ _ _ _ _ _ _ _ c.args.text.now (Ok c.in-Ok.line) c.print.result
    (subst (λ (t : List ℕ). IfSome (g.K.Store.files c.args.store.now) (λ m. Shows m first_generation t (Ok c.in-Ok.line))) c.as_bytes.ensures.value c.in-Ok.ensures.shows)
    (record {
      ends = c.print.ensures.cases;
      written = subst (λ (t : List ℕ). WhereTold (g.O.Sink.written c.args.out.now) (g.O.Sink.written c.print.new.out) (PrintsText t c.print.result)) c.as_slice.ensures c.print.ensures.told;
    })
    c.in-Ok.ensures.files (λ e. cc) c.print.ensures.fault
    (subst (λ (t : List ℕ). IfSome (g.K.Store.files c.args.store.now) (λ m. ShowsWithin m first_generation t (g.K.Store.reads c.args.store.now) (g.K.Store.reads c.show_value.new.store))) c.as_bytes.ensures.value c.in-Ok.ensures.reads)

pub returns-in-Err-Usage : goal.returns-in-Err-Usage
returns-in-Err-Usage g c =
    λ left faults.
    let e = c.in-Err-Usage.ensures in
    get_ends left faults _ _ _ _ _ _ _ _ _ _ c.args.text.now (Err get_error.Usage) c.refuse.result
    (subst (λ (t : List ℕ). IfSome (g.K.Store.files c.args.store.now) (λ m. Shows m first_generation t (Err get_error.Usage))) c.as_bytes.ensures.value
    (subst (λ (f : GetError). IfSome (g.K.Store.files c.args.store.now) (λ m. Shows m first_generation c.as_bytes.result.now (Err f))) c.in-Err-Usage.field-0-is e.shows))
    (record { ends = c.refuse.ensures.status; written = c.refuse.ensures.told })
    e.files (λ also. cc) (λ sunk. absurd (never c.refuse.result status.Usage (λ is. cc) c.refuse.ensures.status sunk))
    (subst (λ (t : List ℕ). IfSome (g.K.Store.files c.args.store.now) (λ m. ShowsWithin m first_generation t (g.K.Store.reads c.args.store.now) (g.K.Store.reads c.show_value.new.store))) c.as_bytes.ensures.value e.reads)

pub returns-in-Err-Damaged : goal.returns-in-Err-Damaged
returns-in-Err-Damaged g c =
    λ left faults.
    let e = c.in-Err-Damaged.ensures in
    get_ends left faults _ _ _ _ _ _ _ _ _ _ c.args.text.now (Err (get_error.Damaged c.in-Err-Damaged.damage)) c.refuse-in-Err-Damaged.result
    (subst (λ (t : List ℕ). IfSome (g.K.Store.files c.args.store.now) (λ m. Shows m first_generation t (Err (get_error.Damaged c.in-Err-Damaged.damage)))) c.as_bytes.ensures.value
    (subst (λ (f : GetError). IfSome (g.K.Store.files c.args.store.now) (λ m. Shows m first_generation c.as_bytes.result.now (Err f))) c.in-Err-Damaged.field-0-is e.shows))
    (record { ends = c.refuse-in-Err-Damaged.ensures.status; written = c.refuse-in-Err-Damaged.ensures.told })
    e.files (λ also. cc) (λ sunk. absurd (never c.refuse-in-Err-Damaged.result (status.Damaged c.in-Err-Damaged.damage) (λ is. cc) c.refuse-in-Err-Damaged.ensures.status sunk))
    (subst (λ (t : List ℕ). IfSome (g.K.Store.files c.args.store.now) (λ m. ShowsWithin m first_generation t (g.K.Store.reads c.args.store.now) (g.K.Store.reads c.show_value.new.store))) c.as_bytes.ensures.value e.reads)

pub returns-in-Err-StoreFault : goal.returns-in-Err-StoreFault
returns-in-Err-StoreFault g c =
    λ left faults.
    let e = c.in-Err-StoreFault.ensures in
    get_ends left faults _ _ _ _ _ _ _ _ _ _ c.args.text.now (Err get_error.StoreFault) c.refuse-in-Err-StoreFault.result
    (subst (λ (t : List ℕ). IfSome (g.K.Store.files c.args.store.now) (λ m. Shows m first_generation t (Err get_error.StoreFault))) c.as_bytes.ensures.value
    (subst (λ (f : GetError). IfSome (g.K.Store.files c.args.store.now) (λ m. Shows m first_generation c.as_bytes.result.now (Err f))) c.in-Err-StoreFault.field-0-is e.shows))
    (record { ends = c.refuse-in-Err-StoreFault.ensures.status; written = c.refuse-in-Err-StoreFault.ensures.told })
    e.files (λ also. e.fault (ap Err c.in-Err-StoreFault.field-0-is))
    (λ sunk. absurd (never c.refuse-in-Err-StoreFault.result status.StoreFault (λ is. cc) c.refuse-in-Err-StoreFault.ensures.status sunk))
    (subst (λ (t : List ℕ). IfSome (g.K.Store.files c.args.store.now) (λ m. ShowsWithin m first_generation t (g.K.Store.reads c.args.store.now) (g.K.Store.reads c.show_value.new.store))) c.as_bytes.ensures.value e.reads)

pub returns-in-Err-NoMemory : goal.returns-in-Err-NoMemory
returns-in-Err-NoMemory g c =
    λ left faults.
    let e = c.in-Err-NoMemory.ensures in
    let written = g.O.Sink.written c.args.out.now in
    let same : WhereTold written written (λ old new. new ≡ old) = search rules in
    get_ends left faults written written _ _ _ _ _ _ _ _ c.args.text.now (Err get_error.NoMemory) status.NoMemory
    (subst (λ (t : List ℕ). IfSome (g.K.Store.files c.args.store.now) (λ m. Shows m first_generation t (Err get_error.NoMemory))) c.as_bytes.ensures.value
    (subst (λ (f : GetError). IfSome (g.K.Store.files c.args.store.now) (λ m. Shows m first_generation c.as_bytes.result.now (Err f))) c.in-Err-NoMemory.field-0-is e.shows))
    (record { ends = refl; written = same })
    e.files (λ also. cc) (λ sunk. cc)
    (subst (λ (t : List ℕ). IfSome (g.K.Store.files c.args.store.now) (λ m. ShowsWithin m first_generation t (g.K.Store.reads c.args.store.now) (g.K.Store.reads c.show_value.new.store))) c.as_bytes.ensures.value e.reads)
