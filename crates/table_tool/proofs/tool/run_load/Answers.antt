use Rattle.std.proofs.Common.{Ok, Err, inl, inr, refl, subst, option_map}
use Rattle.std.specs.String.{string_bytes}
use Rattle.key_types.specs.Columns.{columns_of}
use Rattle.key_tool.specs.Shown.{kinds_in}
use Rattle.command_line.specs.declared.command.WordsError.{WordsError}
use Rattle.table_tool.specs.declared.request.Request.{Request}
use Rattle.table_tool.specs.Request.{AreRefused, AskCheck, AskGen, AskGet, AskKey, AskList, AskLoad, AskPrint, AskScan, Asks, asked_of}
use Rattle.table_tool.proofs.RequestLemmas.{ToCheck, ToGet, ToKey, ToList, ToPrint, ToScan, check_names, check_not_refused, get_names, get_not_refused, key_names, key_not_refused, list_names, list_not_refused, load_no_other, print_names, print_not_refused, scan_names, scan_not_refused}
use Rattle.table_tool.proofs.RunLemmas.{gen_run, load_run, memory_run, usage_run}
use Rattle.table_tool.proofs.tool.run_load.Goals as goal

pub unreachable-requires : goal.unreachable-requires
unreachable-requires g c =
    let asked = c.in-Ok-List.field-0-0 in
    let ask : AskList c.args.words.now (columns_of asked.schema) asked.cells = subst (λ (r : Request). Asks c.args.words.now (Ok r)) c.in-Ok-List.field-0-is c.in-Ok-List.ensures.asks in
    load_no_other c.args.words.now ToList (λ e. cc) (λ e. cc) (list_not_refused c.args.words.now (columns_of asked.schema) asked.cells ask) c.requires (list_names c.args.words.now (columns_of asked.schema) asked.cells ask)

pub unreachable-requires-in-Ok-Get : goal.unreachable-requires-in-Ok-Get
unreachable-requires-in-Ok-Get g c =
    let asked = c.in-Ok-Get.field-0-0 in
    let ask : AskGet c.args.words.now (string_bytes asked) = subst (λ (r : Request). Asks c.args.words.now (Ok r)) c.in-Ok-Get.field-0-is c.in-Ok-Get.ensures.asks in
    load_no_other c.args.words.now ToGet (λ e. cc) (λ e. cc) (get_not_refused c.args.words.now (string_bytes asked) ask) c.requires (get_names c.args.words.now (string_bytes asked) ask)

pub unreachable-requires-in-Ok-Scan : goal.unreachable-requires-in-Ok-Scan
unreachable-requires-in-Ok-Scan g c =
    let asked = c.in-Ok-Scan.field-0-0 in
    let ask : AskScan c.args.words.now (option_map string_bytes asked.from) (option_map string_bytes asked.to) = subst (λ (r : Request). Asks c.args.words.now (Ok r)) c.in-Ok-Scan.field-0-is c.in-Ok-Scan.ensures.asks in
    load_no_other c.args.words.now ToScan (λ e. cc) (λ e. cc) (scan_not_refused c.args.words.now _ _ ask) c.requires (scan_names c.args.words.now _ _ ask)

pub unreachable-requires-in-Ok-Check : goal.unreachable-requires-in-Ok-Check
unreachable-requires-in-Ok-Check g c =
    let ask : AskCheck c.args.words.now = subst (λ (r : Request). Asks c.args.words.now (Ok r)) c.in-Ok-Check.field-0-is c.in-Ok-Check.ensures.asks in
    load_no_other c.args.words.now ToCheck (λ e. cc) (λ e. cc) (check_not_refused c.args.words.now ask) c.requires (check_names c.args.words.now ask)

pub unreachable-requires-in-Ok-Key : goal.unreachable-requires-in-Ok-Key
unreachable-requires-in-Ok-Key g c =
    let asked = c.in-Ok-Key.field-0-0 in
    let ask : AskKey c.args.words.now (kinds_in asked.part asked.schema) asked.way (string_bytes asked.text) = subst (λ (r : Request). Asks c.args.words.now (Ok r)) c.in-Ok-Key.field-0-is c.in-Ok-Key.ensures.asks in
    load_no_other c.args.words.now ToKey (λ e. cc) (λ e. cc) (key_not_refused c.args.words.now _ _ _ ask) c.requires (key_names c.args.words.now _ _ _ ask)

pub unreachable-requires-in-Ok-Print : goal.unreachable-requires-in-Ok-Print
unreachable-requires-in-Ok-Print g c =
    let asked = c.in-Ok-Print.field-0-0 in
    let ask : AskPrint c.args.words.now asked = subst (λ (r : Request). Asks c.args.words.now (Ok r)) c.in-Ok-Print.field-0-is c.in-Ok-Print.ensures.asks in
    load_no_other c.args.words.now ToPrint (λ e. cc) (λ e. cc) (print_not_refused c.args.words.now asked ask) c.requires (print_names c.args.words.now asked ask)

pub returns-in-Ok-Load-clause-ends : goal.returns-in-Ok-Load-clause-ends
returns-in-Ok-Load-clause-ends g c =
    let ask : AskLoad c.args.words.now (asked_of c.in-Ok-Load.request) = subst (λ (r : Request). Asks c.args.words.now (Ok r)) c.in-Ok-Load.field-0-is c.in-Ok-Load.ensures.asks in
    load_run c.args.words.now _ _ c.load.result (asked_of c.in-Ok-Load.request) ask c.load.ensures

pub returns-in-Ok-Load-clause-untouched : goal.returns-in-Ok-Load-clause-untouched
returns-in-Ok-Load-clause-untouched g c none =
    let ask : AskLoad c.args.words.now (asked_of c.in-Ok-Load.request) = subst (λ (r : Request). Asks c.args.words.now (Ok r)) c.in-Ok-Load.field-0-is c.in-Ok-Load.ensures.asks in
    absurd (none (inl (inl (asked_of c.in-Ok-Load.request, ask))))

pub returns-in-Ok-Gen-clause-ends : goal.returns-in-Ok-Gen-clause-ends
returns-in-Ok-Gen-clause-ends g c =
    let request = c.in-Ok-Gen.request in
    let ask : AskGen c.args.words.now request.script (asked_of request.load) = subst (λ (r : Request). Asks c.args.words.now (Ok r)) c.in-Ok-Gen.field-0-is c.in-Ok-Gen.ensures.asks in
    gen_run c.args.words.now _ _ c.generate.result request.script (asked_of request.load) ask (c.generate.ensures _ _)

pub returns-in-Ok-Gen-clause-untouched : goal.returns-in-Ok-Gen-clause-untouched
returns-in-Ok-Gen-clause-untouched g c none =
    let request = c.in-Ok-Gen.request in
    let ask : AskGen c.args.words.now request.script (asked_of request.load) = subst (λ (r : Request). Asks c.args.words.now (Ok r)) c.in-Ok-Gen.field-0-is c.in-Ok-Gen.ensures.asks in
    absurd (none (inl (inr (request.script, asked_of request.load, ask))))

pub returns-in-Err-Usage-clause-ends : goal.returns-in-Err-Usage-clause-ends
returns-in-Err-Usage-clause-ends g c =
    let are : AreRefused c.args.words.now = subst (λ (e : WordsError). Asks c.args.words.now (Err e)) c.in-Err-Usage.field-0-is c.in-Err-Usage.ensures.asks in
    usage_run c.args.words.now _ _ c.refuse.result are (record { possible = c.refuse.ensures.status; refusal = c.refuse.ensures.told; source = (refl, refl); store = (refl, refl, refl) })

pub returns-in-Err-NoMemory-clause-ends : goal.returns-in-Err-NoMemory-clause-ends
returns-in-Err-NoMemory-clause-ends g c =
    memory_run c.args.words.now (g.S.Source.left c.args.source.now) (g.S.Source.faults c.args.source.now) (g.O.Sink.written c.args.out.now) (g.O.Sink.faults c.args.out.now)
    (g.K.Store.files c.args.store.now) (g.K.Store.faults c.args.store.now) (g.K.Store.reads c.args.store.now)
