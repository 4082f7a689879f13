use Rattle.std.proofs.Common.{ℕ, List, Result, Ok, Err, drop, suc, take, sym, ◌∙◌, ap, subst}
use Rattle.std.specs.List.{AllByRecursion}
use Rattle.std.proofs.lemmas.Result.{err_from_is_err_and}
use Rattle.outside.specs.Told.{WhereTold}
use Rattle.key_types.specs.Columns.{columns_of}
use Rattle.shard_table.specs.declared.frozen.FrozenTable.{FrozenTable}
use Rattle.script_text.specs.Script.{puts_of}
use Rattle.script_run.specs.declared.run.RunError.{RunError}
use Rattle.script_run.specs.declared.run.RunError.TheVariants as run_error
use Rattle.script_run.specs.Runs.{IsFirstFull, IsRunPut, WritesAnswers}
use Rattle.script_run.proofs.Closed.{closed_entries, closed_some}
use Rattle.script_run.proofs.Room.{never_full, puts_parted}
use Rattle.script_run.proofs.Told.{closed_late, handed_on}
use Rattle.script_run.proofs.run.run_script.Goals as goal

pub returns-in_err-run_batches-clause-full : goal.returns-in_err-run_batches-clause-full
returns-in_err-run_batches-clause-full g c line e =
    let result = c.from_residual-in_err-run_batches.result in
    let given = err_from_is_err_and result c.from_residual-in_err-run_batches.ensures.1 in
    let is = handed_on result given.0 c.in_err-run_batches.field-0.0 (run_error.Full line) given.1 given.2 e in
    subst (λ (b : List (List ℕ)). IsFirstFull c.args.cells b c.args.batches.now line) c.in_ok-table.ensures.bounds
    (c.in_err-run_batches.ensures.full c.args.cells line c.in_ok-table.ensures.stand (ap Err is))

pub returns-in_err-run_batches-clause-room : goal.returns-in_err-run_batches-clause-room
returns-in_err-run_batches-clause-room g c room line e =
    let batches = c.args.batches.now in
    let first = returns-in_err-run_batches-clause-full g c line e in
    never_full c.args.cells c.args.bounds (puts_of batches) (puts_of (take first.0 batches)) first.1.puts (puts_of (drop (suc first.0) batches)) (puts_parted batches first.0 first.1 first.3) room first.2 line
    first.4

pub close-requires : goal.close-requires
close-requires g c = (c.in_ok-run_batches.ensures.stand c.args.cells c.in_ok-table.ensures.stand).workers

pub returns-in_err-frozen-clause-answers : goal.returns-in_err-frozen-clause-answers
returns-in_err-frozen-clause-answers g c =
    let columns = columns_of c.args.schema.now in let batches = c.args.batches.now in
    let first = g.O.Sink.written c.args.out.now in let now = g.O.Sink.written c.run_batches.new.out in
    let given = err_from_is_err_and c.from_residual-in_err-frozen.result c.from_residual-in_err-frozen.ensures.1 in
    let written : WhereTold first now (WritesAnswers columns c.args.bounds batches {T = Unit {0}} (Ok tt)) =
    subst (λ (b : List (List ℕ)). WhereTold first now (WritesAnswers columns b batches {T = Unit {0}} (Ok tt))) c.in_ok-table.ensures.bounds c.in_ok-run_batches.ensures.answers in
    subst (λ (r : Result FrozenTable RunError). WhereTold first now (WritesAnswers columns c.args.bounds batches r)) (sym (given.1 ∙ ap Err given.2))
    (closed_late columns c.args.bounds (Unit {0}) FrozenTable batches first now tt written)

pub returns-clause-entries : goal.returns-clause-entries
returns-clause-entries g c =
    let table = c.in_ok-table.table in
    let puts = puts_of c.args.batches.now in
    let stand = c.in_ok-run_batches.ensures.stand c.args.cells c.in_ok-table.ensures.stand in
    let all : AllByRecursion (IsRunPut table.bounds) puts = subst (λ (b : List (List ℕ)). AllByRecursion (IsRunPut b) puts) (sym c.in_ok-table.ensures.bounds) c.requires.puts in
    closed_entries table.bounds c.args.cells table.shards c.run_batches.new.workers puts c.in_ok-frozen.frozen stand.shards.count stand.workers stand.made all c.in_ok-frozen.ensures.closed

pub returns-clause-some : goal.returns-clause-some
returns-clause-some g c =
    let table = c.in_ok-table.table in
    let stand = c.in_ok-run_batches.ensures.stand c.args.cells c.in_ok-table.ensures.stand in
    closed_some table.bounds table.shards c.run_batches.new.workers c.in_ok-frozen.frozen stand.shards.count stand.workers c.in_ok-frozen.ensures.closed
