use Rattle.std.proofs.Common.{◌≡◌, ◌<◌, ◌++◌, ℕ, List, Err, length, slice_index_or, vec_len, refl, sym, ◌∙◌, ap, subst}
use Rattle.key_types.specs.Columns.{columns_of}
use Rattle.shard_table.specs.declared.workers.Workers.{Workers}
use Rattle.shard_table.specs.Seats.{AreEach}
use Rattle.shard_table.proofs.Each.{each_equal}
use Rattle.load_work.specs.declared.work.LoadError.TheVariants as load_error
use Rattle.load_work.specs.Puts.{IsPut}
use Rattle.load_work.specs.Work.{IsAnswerOf, IsGetBelow, ReadsRise}
use Rattle.script_text.specs.declared.spans.GetLine.{GetLine}
use Rattle.script_text.specs.declared.spans.PutLine.{PutLine}
use Rattle.script_text.specs.Pieces.{LendsGet, LendsPut}
use Rattle.script_run.specs.Answers.{IsAnsweredBy, answer_lines}
use Rattle.script_run.specs.Steps.{IsBatchText, StandAfter}
use Rattle.std.proofs.lemmas.Result.{err_from_is_err_and}
use Rattle.script_run.proofs.Told.{handed_on}
use Rattle.script_run.proofs.Stepped.{each_answered, gets_within, least_full, puts_within, stands_next, text_is}
use Rattle.script_run.proofs.step.answer_batch.Goals as goal

pub run_batch-requires-clause-puts : goal.run_batch-requires-clause-puts
run_batch-requires-clause-puts g c κs within =
    subst (λ (l : List PutLine). (k : ℕ) (d : PutLine) → k < length l → IsPut (slice_index_or l k d)) (sym c.as_slice.ensures.value)
    (puts_within c.args.table.now.bounds c.in_ok-puts.puts.items c.args.batch.now.puts c.in_ok-puts.ensures c.requires.puts)

pub run_batch-requires-clause-gets : goal.run_batch-requires-clause-gets
run_batch-requires-clause-gets g c κs within =
    let n = vec_len c.args.workers.now.readers in
    subst (λ (l : List GetLine). (k : ℕ) (d : GetLine) → k < length l → IsGetBelow n (slice_index_or l k d)) (sym c.as_slice-2.ensures.value)
    (gets_within n c.in_ok-gets.gets.items c.args.batch.now.gets c.in_ok-gets.ensures c.requires.gets)

pub returns-in_err-answers-clause-full : goal.returns-in_err-answers-clause-full
returns-in_err-answers-clause-full g c cells line before stand e =
    let batch = c.args.batch.now in let lines = c.as_slice.result.now in let gets = c.as_slice-2.result.now in
    let puts_lent : AreEach LendsPut lines batch.puts = each_equal LendsPut c.in_ok-puts.puts.items lines batch.puts batch.puts c.as_slice.ensures.value refl c.in_ok-puts.ensures in
    let gets_lent : AreEach LendsGet gets batch.gets = each_equal LendsGet c.in_ok-gets.gets.items gets batch.gets batch.gets c.as_slice-2.ensures.value refl c.in_ok-gets.ensures in
    let result = c.from_residual-in_err-answers.result in
    let given = err_from_is_err_and result c.from_residual-in_err-answers.ensures.1 in
    let same : c.in_err-answers.field-0.0 ≡ load_error.Full line = handed_on result given.0 c.in_err-answers.field-0.0 (load_error.Full line) given.1 given.2 e in
    least_full cells c.args.table.now before batch lines gets c.args.workers.now stand puts_lent gets_lent line (c.in_err-answers.ensures.full line (ap Err same))

pub write_answers-requires-clause-answered : goal.write_answers-requires-clause-answered
write_answers-requires-clause-answered g c =
    let batch = c.args.batch.now in let lines = c.as_slice.result.now in let gets = c.as_slice-2.result.now in
    let answers = c.in_ok-answers.answers.items in let was = c.args.workers.now in let now = c.run_batch.new.workers in
    let puts_lent : AreEach LendsPut lines batch.puts = each_equal LendsPut c.in_ok-puts.puts.items lines batch.puts batch.puts c.as_slice.ensures.value refl c.in_ok-puts.ensures in
    let gets_lent : AreEach LendsGet gets batch.gets = each_equal LendsGet c.in_ok-gets.gets.items gets batch.gets batch.gets c.as_slice-2.ensures.value refl c.in_ok-gets.ensures in
    let ran = c.in_ok-answers.ensures in
    let stand = c.requires.stand in
    each_equal (IsAnsweredBy now) gets c.as_slice-3.result.now answers c.as_slice-4.result.now (c.as_slice-3.ensures.value ∙ sym c.as_slice-2.ensures.value) c.as_slice-4.ensures.value
    (each_answered stand.0 c.args.table.now stand.1 batch lines gets was stand.2 puts_lent gets_lent now ran.workers ran.learnt ran.made ran.count gets batch.gets answers gets_lent c.requires.gets ran.answers)

pub returns-clause-stand : goal.returns-clause-stand
returns-clause-stand g c cells before stand =
    let batch = c.args.batch.now in let lines = c.as_slice.result.now in let gets = c.as_slice-2.result.now in
    let puts_lent : AreEach LendsPut lines batch.puts = each_equal LendsPut c.in_ok-puts.puts.items lines batch.puts batch.puts c.as_slice.ensures.value refl c.in_ok-puts.ensures in
    let gets_lent : AreEach LendsGet gets batch.gets = each_equal LendsGet c.in_ok-gets.gets.items gets batch.gets batch.gets c.as_slice-2.ensures.value refl c.in_ok-gets.ensures in
    let ran = c.in_ok-answers.ensures in
    subst (λ (w : Workers). StandAfter cells c.args.table.now (before ++ batch.puts) w) (sym c.write_answers.ensures.same)
    (stands_next cells c.args.table.now before batch lines gets c.args.workers.now stand puts_lent gets_lent c.run_batch.new.workers ran.workers ran.learnt ran.made)

pub returns-clause-text : goal.returns-clause-text
returns-clause-text g c cells before stand =
    let batch = c.args.batch.now in let lines = c.as_slice.result.now in let gets = c.as_slice-2.result.now in
    let answers = c.as_slice-4.result.now in let was = c.args.workers.now in let now = c.run_batch.new.workers in
    let bounds = c.args.table.now.bounds in let columns = columns_of c.args.schema.now in
    let puts_lent : AreEach LendsPut lines batch.puts = each_equal LendsPut c.in_ok-puts.puts.items lines batch.puts batch.puts c.as_slice.ensures.value refl c.in_ok-puts.ensures in
    let gets_lent : AreEach LendsGet gets batch.gets = each_equal LendsGet c.in_ok-gets.gets.items gets batch.gets batch.gets c.as_slice-2.ensures.value refl c.in_ok-gets.ensures in
    let lent_again : AreEach LendsGet c.as_slice-3.result.now batch.gets = each_equal LendsGet c.in_ok-gets.gets.items c.as_slice-3.result.now batch.gets batch.gets c.as_slice-3.ensures.value refl c.in_ok-gets.ensures in
    let ran = c.in_ok-answers.ensures in
    let are : AreEach (IsAnswerOf c.args.table.now was now) gets answers = subst (AreEach (IsAnswerOf c.args.table.now was now) gets) (sym c.as_slice-4.ensures.value) ran.answers in
    let rise : ReadsRise answers = subst ReadsRise (sym c.as_slice-4.ensures.value) ran.rise in
    let written : c.write_answers.new.out ≡ answer_lines columns now batch.gets answers =
    c.in_ok-write_answers.ensures.lines batch.gets lent_again ∙ ap (λ (l : List ℕ). l ++ answer_lines columns now batch.gets answers) c.truncate.ensures in
    subst (IsBatchText columns bounds before batch) (sym written)
    (text_is cells c.args.table.now before batch lines gets was stand puts_lent gets_lent now ran.workers ran.learnt ran.made answers are columns rise)
