use Rattle.std.proofs.Common.{ℕ, List, Ok, Err, inl, inr, refl, subst, option_map}
use Rattle.std.specs.String.{string_bytes}
use Rattle.key_types.specs.Columns.{columns_of}
use Rattle.key_tool.specs.Shown.{kinds_in}
use Rattle.command_line.specs.declared.command.WordsError.{WordsError}
use Rattle.table_tool.specs.declared.request.Request.{Request}
use Rattle.table_tool.specs.Getting.{GetEnds}
use Rattle.table_tool.specs.Outside.{outside_of}
use Rattle.table_tool.specs.Request.{AreRefused, AskCheck, AskGen, AskGet, AskKey, AskList, AskLoad, AskPrint, AskScan, Asks, asked_of}
use Rattle.table_tool.proofs.RunLemmas.{check_run, get_run, key_run, list_run, memory_run, print_run, scan_run, usage_run}
use Rattle.table_tool.proofs.tool.run_query.Goals as goal

pub unreachable-requires : goal.unreachable-requires
unreachable-requires g c =
    let ask : AskLoad c.args.words.now (asked_of c.in-Ok-Load.field-0-0) = subst (λ (r : Request). Asks c.args.words.now (Ok r)) c.in-Ok-Load.field-0-is c.in-Ok-Load.ensures.asks in
    c.requires (inl (asked_of c.in-Ok-Load.field-0-0, ask))

pub unreachable-requires-in-Ok-Gen : goal.unreachable-requires-in-Ok-Gen
unreachable-requires-in-Ok-Gen g c =
    let request = c.in-Ok-Gen.field-0-0 in
    let ask : AskGen c.args.words.now request.script (asked_of request.load) = subst (λ (r : Request). Asks c.args.words.now (Ok r)) c.in-Ok-Gen.field-0-is c.in-Ok-Gen.ensures.asks in
    c.requires (inr (request.script, asked_of request.load, ask))

pub returns-in-Ok-List-clause-ends : goal.returns-in-Ok-List-clause-ends
returns-in-Ok-List-clause-ends g c =
    let request = c.in-Ok-List.request in
    let ask : AskList c.args.words.now (columns_of request.schema) request.cells = subst (λ (r : Request). Asks c.args.words.now (Ok r)) c.in-Ok-List.field-0-is c.in-Ok-List.ensures.asks in
    list_run c.args.words.now _ _ c.list.result (columns_of request.schema) request.cells ask (c.list.ensures _ _ _)

pub returns-in-Ok-Get-clause-ends : goal.returns-in-Ok-Get-clause-ends
returns-in-Ok-Get-clause-ends g c =
    let ask : AskGet c.args.words.now (string_bytes c.in-Ok-Get.text) = subst (λ (r : Request). Asks c.args.words.now (Ok r)) c.in-Ok-Get.field-0-is c.in-Ok-Get.ensures.asks in
    get_run c.args.words.now _ _ c.get.result (string_bytes c.in-Ok-Get.text) ask
    (subst (λ (t : List ℕ). GetEnds t (outside_of (g.S.Source.left c.args.source.now) (g.S.Source.faults c.args.source.now) (g.O.Sink.written c.args.out.now) (g.O.Sink.faults c.args.out.now)
    (g.K.Store.files c.args.store.now) (g.K.Store.faults c.args.store.now) (g.K.Store.reads c.args.store.now))
    (outside_of (g.S.Source.left c.args.source.now) (g.S.Source.faults c.args.source.now) (g.O.Sink.written c.get.new.out) (g.O.Sink.faults c.get.new.out)
    (g.K.Store.files c.get.new.store) (g.K.Store.faults c.get.new.store) (g.K.Store.reads c.get.new.store)) c.get.result) c.as_str.ensures.value
    (c.get.ensures (g.S.Source.left c.args.source.now) (g.S.Source.faults c.args.source.now)))

pub returns-in-Ok-Get-clause-untouched : goal.returns-in-Ok-Get-clause-untouched
returns-in-Ok-Get-clause-untouched g c none =
    let ask : AskGet c.args.words.now (string_bytes c.in-Ok-Get.text) = subst (λ (r : Request). Asks c.args.words.now (Ok r)) c.in-Ok-Get.field-0-is c.in-Ok-Get.ensures.asks in
    absurd (none (inr (inl (string_bytes c.in-Ok-Get.text, ask))))

pub returns-in-Ok-Scan-clause-ends : goal.returns-in-Ok-Scan-clause-ends
returns-in-Ok-Scan-clause-ends g c =
    let asked = c.in-Ok-Scan.bounds in
    let ask : AskScan c.args.words.now (option_map string_bytes asked.from) (option_map string_bytes asked.to) = subst (λ (r : Request). Asks c.args.words.now (Ok r)) c.in-Ok-Scan.field-0-is c.in-Ok-Scan.ensures.asks in
    scan_run c.args.words.now _ _ c.scan.result _ _ ask (c.scan.ensures _ _)

pub returns-in-Ok-Scan-clause-untouched : goal.returns-in-Ok-Scan-clause-untouched
returns-in-Ok-Scan-clause-untouched g c none =
    let asked = c.in-Ok-Scan.bounds in
    let ask : AskScan c.args.words.now (option_map string_bytes asked.from) (option_map string_bytes asked.to) = subst (λ (r : Request). Asks c.args.words.now (Ok r)) c.in-Ok-Scan.field-0-is c.in-Ok-Scan.ensures.asks in
    absurd (none (inr (inr (inl (_, _, ask)))))

pub returns-in-Ok-Check-clause-ends : goal.returns-in-Ok-Check-clause-ends
returns-in-Ok-Check-clause-ends g c =
    let ask : AskCheck c.args.words.now = subst (λ (r : Request). Asks c.args.words.now (Ok r)) c.in-Ok-Check.field-0-is c.in-Ok-Check.ensures.asks in
    check_run c.args.words.now _ _ c.check.result ask (c.check.ensures _ _)

pub returns-in-Ok-Check-clause-untouched : goal.returns-in-Ok-Check-clause-untouched
returns-in-Ok-Check-clause-untouched g c none =
    let ask : AskCheck c.args.words.now = subst (λ (r : Request). Asks c.args.words.now (Ok r)) c.in-Ok-Check.field-0-is c.in-Ok-Check.ensures.asks in
    absurd (none (inr (inr (inr ask))))

pub returns-in-Ok-Key-clause-ends : goal.returns-in-Ok-Key-clause-ends
returns-in-Ok-Key-clause-ends g c =
    let request = c.in-Ok-Key.asked in
    let ask : AskKey c.args.words.now (kinds_in request.part request.schema) request.way (string_bytes request.text) =
    subst (λ (r : Request). Asks c.args.words.now (Ok r)) c.in-Ok-Key.field-0-is c.in-Ok-Key.ensures.asks in
    key_run c.args.words.now _ _ c.key.result (kinds_in request.part request.schema) request.way (string_bytes request.text) ask (c.key.ensures _ _ _ _ _)

pub returns-in-Ok-Print-clause-ends : goal.returns-in-Ok-Print-clause-ends
returns-in-Ok-Print-clause-ends g c =
    let script = c.in-Ok-Print.script in
    let ask : AskPrint c.args.words.now script = subst (λ (r : Request). Asks c.args.words.now (Ok r)) c.in-Ok-Print.field-0-is c.in-Ok-Print.ensures.asks in
    print_run c.args.words.now _ _ c.print_script.result script ask (c.print_script.ensures _ _ _ _ _)

pub returns-in-Err-Usage-clause-ends : goal.returns-in-Err-Usage-clause-ends
returns-in-Err-Usage-clause-ends g c =
    let are : AreRefused c.args.words.now = subst (λ (e : WordsError). Asks c.args.words.now (Err e)) c.in-Err-Usage.field-0-is c.in-Err-Usage.ensures.asks in
    usage_run c.args.words.now _ _ c.refuse.result are (record { possible = c.refuse.ensures.status; refusal = c.refuse.ensures.told; source = (refl, refl); store = (refl, refl, refl) })

pub returns-in-Err-NoMemory-clause-ends : goal.returns-in-Err-NoMemory-clause-ends
returns-in-Err-NoMemory-clause-ends g c =
    memory_run c.args.words.now (g.S.Source.left c.args.source.now) (g.S.Source.faults c.args.source.now) (g.O.Sink.written c.args.out.now) (g.O.Sink.faults c.args.out.now)
    (g.K.Store.files c.args.store.now) (g.K.Store.faults c.args.store.now) (g.K.Store.reads c.args.store.now)
