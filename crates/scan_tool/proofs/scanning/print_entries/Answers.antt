use Rattle.std.proofs.Common.{◌∙◌, ◌++◌, ◌∷◌, [], List, ℕ, Bool, true, Err, Ok, arith, refl, rules, subst, sym}
use Rattle.key_types.specs.Columns.{columns_of}
use Rattle.row_text.specs.Lines.{HoldsText}
use Rattle.scan_tool.specs.declared.error.ScanError.{ScanError}
use Rattle.scan_tool.specs.Steps.{Holds, PrintsEntries, TurnIs}
use Rattle.scan_tool.proofs.Counting.{near_at_once, near_last, near_more}
use Rattle.scan_tool.proofs.Turns.{Along, along_more, held_cut, held_more, held_pushed, turned_error}
use Rattle.scan_tool.proofs.scanning.print_entries.Goals as goal

pub entries-init : goal.entries-init
entries-init g c =
    let columns = columns_of c.args.table.now.schema in
    let files = g.K.Store.files c.args.store.now in
    let generation = c.args.table.now.generation in
    let scan = c.args.scan.now in
    let reads = g.K.Store.reads c.args.store.now in
    let written = g.O.Sink.written c.args.out.now in
    let fresh = c.requires.fresh in
    let along : Along columns files generation scan [] scan = search rules in
    let holds : Holds columns files generation c.args.lines.now [] written written = search rules in
    record {
      stands = c.requires.stands;
      place = c.requires.place;
      held = λ some. absurd (some fresh.key);
      rows = omega (arith, fresh.rows);
      printed = ([], along, holds, near_at_once columns generation scan files reads reads (omega arith));
      same = refl;
      store_later = omega arith;
      later = omega arith;
    }

pub returns-in-Err-clause-prints : goal.returns-in-Err-clause-prints
returns-in-Err-clause-prints g c =
    let held = c.entries.invariant in
    turned_error (columns_of c.args.table.now.schema) (g.K.Store.files c.args.store.now) (g.K.Store.files c.entries.store) c.args.table.now.generation c.args.scan.now c.entries.scan c.turn.new.scan c.entries.lines
    c.turn.new.lines held.printed.0 (g.O.Sink.written c.args.out.now) (g.O.Sink.written c.entries.out) held.same held.printed.1 held.printed.2 c.in-Err.e c.in-Err.ensures.turn

pub entries-preserved : goal.entries-preserved
entries-preserved g c =
    let columns = columns_of c.args.table.now.schema in
    let held = c.entries.invariant in
    let turn : TurnIs columns (g.K.Store.files c.entries.store) c.args.table.now.generation c.entries.scan c.turn.new.scan c.entries.lines c.turn.new.lines (Ok true) =
    subst (λ (b : Bool). TurnIs columns (g.K.Store.files c.entries.store) c.args.table.now.generation c.entries.scan c.turn.new.scan c.entries.lines c.turn.new.lines (Ok b)) c.in-Ok-true.field-0-test
    c.in-Ok-true.ensures.turn in
    let along = along_more columns (g.K.Store.files c.args.store.now) (g.K.Store.files c.entries.store) c.args.table.now.generation c.args.scan.now c.entries.scan c.turn.new.scan held.printed.0 turn.0 held.same held.printed.1 turn.1 in
    let more = held_more columns (g.K.Store.files c.args.store.now) (g.K.Store.files c.entries.store) c.args.table.now.generation c.args.scan.now c.entries.scan c.turn.new.scan c.entries.lines c.turn.new.lines held.printed.0
    (g.O.Sink.written c.args.out.now) (g.O.Sink.written c.entries.out) held.same held.printed.1 held.printed.2 turn.0 turn.2 in
    record {
      stands = c.in-Ok-true.ensures.stands;
      place = turn.3;
      held = subst (λ (k : List ℕ). HoldsText columns.partition k c.push_block.new.self.partition) (sym c.in-Ok.ensures.key)
          (subst (λ (p : List ℕ). HoldsText columns.partition c.turn.new.lines.key p) (sym c.in-Ok.ensures.partition) turn.4);
      rows = omega (arith, c.in-Ok.ensures.rows, turn.2.few, held.rows, turn.5);
      printed = (
        held.printed.0 ++ turn.0 ∷ [],
        along,
        held_pushed columns (g.K.Store.files c.args.store.now) c.args.table.now.generation c.args.scan.now c.turn.new.scan c.turn.new.lines (held.printed.0 ++ turn.0 ∷ []) (g.O.Sink.written c.args.out.now)
            (g.O.Sink.written c.entries.out) (g.O.Sink.written c.push_block.new.out) along more c.push_block.new.self c.in-Ok.ensures.rows c.in-Ok.ensures.pushed,
        near_more columns c.args.table.now.generation c.args.scan.now (g.K.Store.files c.args.store.now) (g.K.Store.files c.entries.store) c.entries.scan c.turn.new.scan held.printed.0 turn.0
            (g.K.Store.reads c.args.store.now) (g.K.Store.reads c.entries.store) (g.K.Store.reads c.turn.new.store) held.same held.printed.3 c.in-Ok-true.ensures.reads,
      );
      same = c.in-Ok-true.ensures.files ∙ held.same;
      store_later = omega (arith, c.in-Ok-true.ensures.later, held.store_later);
      later = omega (arith, c.in-Ok.ensures.later, held.later);
    }

pub returns-in-Err-push_block-clause-prints : goal.returns-in-Err-push_block-clause-prints
returns-in-Err-push_block-clause-prints g c =
    let columns = columns_of c.args.table.now.schema in
    let held = c.entries.invariant in
    let turn : TurnIs columns (g.K.Store.files c.entries.store) c.args.table.now.generation c.entries.scan c.turn.new.scan c.entries.lines c.turn.new.lines (Ok true) =
    subst (λ (b : Bool). TurnIs columns (g.K.Store.files c.entries.store) c.args.table.now.generation c.entries.scan c.turn.new.scan c.entries.lines c.turn.new.lines (Ok b)) c.in-Ok-true.field-0-test
    c.in-Ok-true.ensures.turn in
    let along = along_more columns (g.K.Store.files c.args.store.now) (g.K.Store.files c.entries.store) c.args.table.now.generation c.args.scan.now c.entries.scan c.turn.new.scan held.printed.0 turn.0 held.same held.printed.1 turn.1 in
    let more = held_more columns (g.K.Store.files c.args.store.now) (g.K.Store.files c.entries.store) c.args.table.now.generation c.args.scan.now c.entries.scan c.turn.new.scan c.entries.lines c.turn.new.lines held.printed.0
    (g.O.Sink.written c.args.out.now) (g.O.Sink.written c.entries.out) held.same held.printed.1 held.printed.2 turn.0 turn.2 in
    subst (λ (e : ScanError). PrintsEntries columns (g.K.Store.files c.args.store.now) c.args.table.now.generation c.args.scan.now c.push_block.new.self (g.O.Sink.written c.args.out.now) (g.O.Sink.written c.push_block.new.out) (Err e))
    (sym c.from.ensures)
    (held_cut columns (g.K.Store.files c.args.store.now) c.args.table.now.generation c.args.scan.now c.turn.new.scan c.turn.new.lines (held.printed.0 ++ turn.0 ∷ []) (g.O.Sink.written c.args.out.now)
    (g.O.Sink.written c.entries.out) (g.O.Sink.written c.push_block.new.out) along more c.in-Err-push_block.ensures.cut)

pub returns-in-Err-clause-reads : goal.returns-in-Err-clause-reads
returns-in-Err-clause-reads g c =
    let held = c.entries.invariant in
    near_last (columns_of c.args.table.now.schema) c.args.table.now.generation c.args.scan.now (g.K.Store.files c.args.store.now) (g.K.Store.files c.entries.store) c.entries.scan c.turn.new.scan held.printed.0
    (g.K.Store.reads c.args.store.now) (g.K.Store.reads c.entries.store) (g.K.Store.reads c.turn.new.store) held.same held.printed.1 held.printed.3 c.in-Err.ensures.reads

pub returns-in-Ok-false-clause-reads : goal.returns-in-Ok-false-clause-reads
returns-in-Ok-false-clause-reads g c =
    let held = c.entries.invariant in
    near_last (columns_of c.args.table.now.schema) c.args.table.now.generation c.args.scan.now (g.K.Store.files c.args.store.now) (g.K.Store.files c.entries.store) c.entries.scan c.turn.new.scan held.printed.0
    (g.K.Store.reads c.args.store.now) (g.K.Store.reads c.entries.store) (g.K.Store.reads c.turn.new.store) held.same held.printed.1 held.printed.3 c.in-Ok-false.ensures.reads

pub returns-in-Err-push_block-clause-reads : goal.returns-in-Err-push_block-clause-reads
returns-in-Err-push_block-clause-reads g c =
    let held = c.entries.invariant in
    near_last (columns_of c.args.table.now.schema) c.args.table.now.generation c.args.scan.now (g.K.Store.files c.args.store.now) (g.K.Store.files c.entries.store) c.entries.scan c.turn.new.scan held.printed.0
    (g.K.Store.reads c.args.store.now) (g.K.Store.reads c.entries.store) (g.K.Store.reads c.turn.new.store) held.same held.printed.1 held.printed.3 c.in-Ok-true.ensures.reads
