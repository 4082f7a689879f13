use Rattle.std.proofs.Common.{◌≡◌, ℕ, List, Result, Ok, Err, rules, subst, sym}
use Rattle.outside.specs.Told.{WhereTold}
use Rattle.shard_table.specs.declared.frozen.FrozenTable.{FrozenTable}
use Rattle.table_tool.specs.declared.status.Status.{Status}
use Rattle.table_tool.specs.declared.status.Status.TheVariants as status
use Rattle.table_tool.specs.Loading.{Answers, FillsShards, FitsShards}
use Rattle.std.specs.List.{AllByRecursion}
use Rattle.key_types.specs.Columns.{columns_of}
use Rattle.script_text.specs.Puts.{Batch}
use Rattle.script_text.specs.Script.{gets_of, puts_of}
use Rattle.script_text.proofs.Accepted.{accepted_puts}
use Rattle.script_run.specs.Runs.{IsRunGet, IsRunPut}
use Rattle.table_tool.specs.Request.{asked_of}
use Rattle.table_tool.proofs.LoadLemmas.{full_answers, full_line, full_never, memory_answers}
use Rattle.table_tool.proofs.RowLemmas.{script_accepted}
use Rattle.table_tool.proofs.RunPuts.{begins_none, run_gets, run_puts}
use Rattle.table_tool.proofs.load.load_script.Goals as goal

pub run_script-requires-clause-puts : goal.run_script-requires-clause-puts
run_script-requires-clause-puts g c κs within =
    let columns = columns_of c.args.request.schema in
    let bounds = c.args.request.bounds in
    let script = c.args.script.now in
    let spelled = c.requires.spelled in
    let text = c.requires.can.bounds in
    subst (λ (bs : List Batch). AllByRecursion (IsRunPut bounds) (puts_of bs)) (sym c.as_slice-batches.ensures)
    (run_puts columns bounds (begins_none columns bounds text.0 text.1) (puts_of script.batches) (accepted_puts columns c.args.request.readers spelled.0 script spelled.1))

pub run_script-requires-clause-gets : goal.run_script-requires-clause-gets
run_script-requires-clause-gets g c κs within =
    let columns = columns_of c.args.request.schema in
    let readers = c.args.request.readers in
    let script = c.args.script.now in
    let accepted = script_accepted columns readers script c.requires.can.some c.requires.spelled in
    subst (λ (bs : List Batch). AllByRecursion (IsRunGet readers) (gets_of bs)) (sym c.as_slice-batches.ensures)
    (run_gets columns readers 0 (gets_of script.batches) accepted.ask accepted.dealt)

pub returns-in-Err-Full-clause-answers : goal.returns-in-Err-Full-clause-answers
returns-in-Err-Full-clause-answers g c =
    let script = c.args.script.now in
    let before = g.O.Sink.written c.args.out.now in
    let after = g.O.Sink.written c.run_script.new.out in
    subst (λ (n : ℕ). WhereTold before after (Answers (asked_of c.args.request) (Err (status.Full n)) (Ok script))) (sym c.in-Err-Full.line-is)
    (full_answers (asked_of c.args.request) script before after c.as_slice-batches.result.now c.as_slice-batches.ensures FrozenTable c.in-Err-Full.line c.in-Err-Full.field-0 c.in-Err-Full.field-0-is
    c.in-Err-Full.ensures.answers)

pub returns-in-Err-Full-clause-full : goal.returns-in-Err-Full-clause-full
returns-in-Err-Full-clause-full g c =
    let script = c.args.script.now in
    subst (λ (n : ℕ). (other : ℕ) → ◌≡◌ {A = Result (List ℕ) Status} (Err (status.Full n)) (Err (status.Full other)) → FillsShards (asked_of c.args.request) (Ok script) other) (sym c.in-Err-Full.line-is)
    (full_line (asked_of c.args.request) script (g.O.Sink.written c.args.out.now) (g.O.Sink.written c.run_script.new.out) c.as_slice-batches.result.now c.as_slice-batches.ensures
    c.in-Err-Full.line (c.in-Err-Full.ensures.full c.in-Err-Full.line (search rules)))

pub returns-in-Err-Full-clause-room : goal.returns-in-Err-Full-clause-room
returns-in-Err-Full-clause-room g c =
    let script = c.args.script.now in
    subst (λ (n : ℕ). FitsShards (asked_of c.args.request) (Ok script) → (other : ℕ) → ◌≡◌ {A = Result (List ℕ) Status} (Err (status.Full n)) (Err (status.Full other)) → ⊥) (sym c.in-Err-Full.line-is)
    (full_never (asked_of c.args.request) script (g.O.Sink.written c.args.out.now) (g.O.Sink.written c.run_script.new.out) c.as_slice-batches.result.now c.as_slice-batches.ensures
    c.in-Err-Full.line (λ room. c.in-Err-Full.ensures.room room c.in-Err-Full.line (search rules)))

pub returns-clause-answers : goal.returns-clause-answers
returns-clause-answers g c =
    memory_answers (asked_of c.args.request) c.args.script.now (g.O.Sink.written c.args.out.now) (g.O.Sink.written c.run_script.new.out) c.as_slice-batches.result.now c.as_slice-batches.ensures
    FrozenTable c.in-Ok.table c.in-Ok.ensures.answers
