use Rattle.std.proofs.Common.{◌≡◌, ◌<◌, ◌≤◌, ℕ, List, Result, Err, Some, length, slice_get, take, vec_len, sym, ◌∙◌, ap, subst, arith}
use Rattle.std.specs.List.{AllByRecursion}
use Rattle.std.proofs.lemmas.List.{take_all}
use Rattle.std.proofs.lemmas.Result.{err_from_is_err_and}
use Rattle.outside.specs.Told.{WhereTold}
use Rattle.outside.specs.declared.stream.Failed.{Failed}
use Rattle.key_types.specs.Columns.{columns_of}
use Rattle.script_text.specs.Puts.{Batch, Put}
use Rattle.script_text.specs.Script.{puts_of}
use Rattle.script_run.specs.declared.run.RunError.{RunError}
use Rattle.script_run.specs.declared.run.RunError.TheVariants as run_error
use Rattle.script_run.specs.Runs.{IsRunGet, IsRunPut, WritesAnswers}
use Rattle.script_run.specs.Steps.{IsBatchText, StandAfter, run_error_of}
use Rattle.script_run.proofs.Printed.{puts_snoc, take_next}
use Rattle.script_run.proofs.Room.{batch_gets, batch_puts, item_is}
use Rattle.script_run.proofs.Told.{ends_all, full_is, handed_on, pushed, stopped}
use Rattle.script_run.proofs.run.run_batches.Goals as goal

pub answer_batch-requires-clause-stand : goal.answer_batch-requires-clause-stand
answer_batch-requires-clause-stand g c κs within =
    (c.requires.stand.0, puts_of (take c.batches.batch-index c.args.batches.now), c.batches.invariant.stand c.requires.stand.0 c.requires.stand.1)

pub answer_batch-requires-clause-puts : goal.answer_batch-requires-clause-puts
answer_batch-requires-clause-puts g c κs within =
    let batches = c.args.batches.now in let n = c.batches.batch-index in let batch = c.batch-item.result in
    let inside : n < length batches = omega arith in
    batch_puts (IsRunPut c.args.table.now.bounds) batches n batch (item_is batches n batch inside (sym c.batch-item.is)) c.requires.puts

pub answer_batch-requires-clause-gets : goal.answer_batch-requires-clause-gets
answer_batch-requires-clause-gets g c κs within =
    let batches = c.args.batches.now in let n = c.batches.batch-index in let batch = c.batch-item.result in
    let inside : n < length batches = omega arith in
    subst (λ (k : ℕ). AllByRecursion (IsRunGet k) batch.gets) (sym c.batches.invariant.count)
    (batch_gets (IsRunGet (vec_len c.args.workers.now.readers)) batches n batch (item_is batches n batch inside (sym c.batch-item.is)) c.requires.gets)

pub returns-in_err-answer_batch-clause-full : goal.returns-in_err-answer_batch-clause-full
returns-in_err-answer_batch-clause-full g c cells line stand e =
    let batches = c.args.batches.now in let n = c.batches.batch-index in let batch = c.batch-item.result in
    let inside : n < length batches = omega arith in
    let at : slice_get batches n ≡ Some batch = item_is batches n batch inside (sym c.batch-item.is) in
    let before = puts_of (take n batches) in
    let result = c.from_residual.result in
    let given = err_from_is_err_and result c.from_residual.ensures.1 in
    let was = c.in_err-answer_batch.field-0.0 in
    let is = full_is was line (handed_on result given.0 (run_error_of was) (run_error.Full line) given.1 given.2 e) in
    let least = c.in_err-answer_batch.ensures.full cells line before (c.batches.invariant.stand cells stand) (ap Err is) in
    (n, batch, least.shard, at, least.full, least.least)

pub returns-in_err-push_text-clause-answers : goal.returns-in_err-push_text-clause-answers
returns-in_err-push_text-clause-answers g c =
    let batches = c.args.batches.now in let n = c.batches.batch-index in let batch = c.batch-item.result in
    let columns = columns_of c.args.schema.now in let bounds = c.args.table.now.bounds in
    let first = g.O.Sink.written c.args.out.now in let mid = g.O.Sink.written c.batches.out in let now = g.O.Sink.written c.push_text.new.out in
    let inside : n < length batches = omega arith in
    let at : slice_get batches n ≡ Some batch = item_is batches n batch inside (sym c.batch-item.is) in
    let before = puts_of (take n batches) in
    let lines = c.as_slice.result.now in
    let is_text : IsBatchText columns bounds before batch lines =
    subst (IsBatchText columns bounds before batch) (sym c.as_slice.ensures)
    (c.in_ok-answer_batch.ensures.text c.requires.stand.0 before (c.batches.invariant.stand c.requires.stand.0 c.requires.stand.1)) in
    let given = err_from_is_err_and c.from_residual-in_err-push_text.result c.from_residual-in_err-push_text.ensures.1 in
    subst (λ (r : Result (Unit {0}) RunError). WhereTold first now (WritesAnswers columns bounds batches r)) (sym (given.1 ∙ ap Err given.2))
    (stopped columns bounds batches first mid n c.batches.invariant.written batch at inside lines is_text now (Unit {0}) (Unit {0}) Failed c.in_err-push_text.field-0.0 c.in_err-push_text.ensures.bytes)

pub batches-preserved : goal.batches-preserved
batches-preserved g c =
    let batches = c.args.batches.now in let n = c.batches.batch-index in let batch = c.batch-item.result in
    let columns = columns_of c.args.schema.now in let bounds = c.args.table.now.bounds in
    let first = g.O.Sink.written c.args.out.now in let mid = g.O.Sink.written c.batches.out in let now = g.O.Sink.written c.push_text.new.out in
    let inside : n < length batches = omega arith in
    let at : slice_get batches n ≡ Some batch = item_is batches n batch inside (sym c.batch-item.is) in
    let before = puts_of (take n batches) in
    let lines = c.as_slice.result.now in
    let is_text : IsBatchText columns bounds before batch lines =
    subst (IsBatchText columns bounds before batch) (sym c.as_slice.ensures)
    (c.in_ok-answer_batch.ensures.text c.requires.stand.0 before (c.batches.invariant.stand c.requires.stand.0 c.requires.stand.1)) in
    record {
      stand = λ cells stand.
          subst (λ (l : List Put). StandAfter cells c.args.table.now l c.answer_batch.new.workers) (sym (ap puts_of (take_next batches n batch at) ∙ puts_snoc (take n batches) batch))
          (c.in_ok-answer_batch.ensures.stand cells before (c.batches.invariant.stand cells stand));
      count = c.in_ok-answer_batch.ensures.count ∙ c.batches.invariant.count;
      written = pushed columns bounds batches first mid n c.batches.invariant.written batch at inside lines is_text now (Unit {0}) Failed tt c.in_ok-push_text.ensures.bytes;
      later = omega (arith, c.batches.invariant.later, c.push_text.ensures.cause.later);
    }

pub returns-clause-stand : goal.returns-clause-stand
returns-clause-stand g c cells stand =
    let batches = c.args.batches.now in let n = c.batches.batch-index in
    let all : length batches ≤ n = omega arith in
    subst (λ (l : List Batch). StandAfter cells c.args.table.now (puts_of l) c.batches.workers) (take_all n batches all) (c.batches.invariant.stand cells stand)

pub returns-clause-answers : goal.returns-clause-answers
returns-clause-answers g c =
    let batches = c.args.batches.now in let n = c.batches.batch-index in
    let all : length batches ≤ n = omega arith in
    ends_all (columns_of c.args.schema.now) c.args.table.now.bounds batches (g.O.Sink.written c.args.out.now) (g.O.Sink.written c.batches.out) n c.batches.invariant.written (Unit {0}) tt all
