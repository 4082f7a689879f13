use Rattle.std.proofs.Common.{◌++◌, List, ℕ, sym, ◌∙◌, ap, subst, arith}
use Rattle.key_types.specs.Columns.{columns_of}
use Rattle.shard_table.specs.declared.workers.Workers.{Workers}
use Rattle.shard_table.specs.Seats.{AreEach}
use Rattle.shard_table.proofs.Each.{each_index, each_length}
use Rattle.script_text.specs.Pieces.{LendsGet}
use Rattle.script_run.specs.Answers.{IsAnsweredBy}
use Rattle.script_run.proofs.Valued.{lines_all, lines_next}
use Rattle.script_run.proofs.answers.write_answers.Goals as goal

pub bounds-answers-i : goal.bounds-answers-i
bounds-answers-i c = omega (arith, each_length (IsAnsweredBy c.args.workers.now) c.args.gets.now c.args.answers.now c.requires.answered)

pub write_answer-requires-clause-answered : goal.write_answer-requires-clause-answered
write_answer-requires-clause-answered c =
    each_index (IsAnsweredBy c.answers.workers) c.args.gets.now c.args.answers.now c.answers.i _ _
    (subst (λ (w : Workers). AreEach (IsAnsweredBy w) c.args.gets.now c.args.answers.now) (sym c.answers.invariant.same) c.requires.answered) (omega arith)

pub answers-preserved : goal.answers-preserved
answers-preserved c = record {
  same = c.write_answer.ensures.same ∙ c.answers.invariant.same;
  lines = λ asked lent.
      lines_next (columns_of c.args.schema.now) c.args.workers.now c.answers.workers c.answers.invariant.same c.args.gets.now asked c.args.answers.now c.answers.i _ _ c.args.out.now c.answers.out
      c.write_answer.new.out lent (each_length (IsAnsweredBy c.args.workers.now) c.args.gets.now c.args.answers.now c.requires.answered) (omega arith) (c.answers.invariant.lines asked lent)
      c.in_ok-write_answer.ensures.line;
}

pub returns-clause-lines : goal.returns-clause-lines
returns-clause-lines c asked lent =
    c.answers.invariant.lines asked lent
    ∙ ap (λ (l : List ℕ). c.args.out.now ++ l)
    (lines_all (columns_of c.args.schema.now) c.args.workers.now asked c.args.answers.now c.answers.i
    (omega (arith, c.answers-test.false, each_length LendsGet c.args.gets.now asked lent))
    (omega (arith, c.answers-test.false, each_length (IsAnsweredBy c.args.workers.now) c.args.gets.now c.args.answers.now c.requires.answered)))
