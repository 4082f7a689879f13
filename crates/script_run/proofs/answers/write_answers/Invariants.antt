use Rattle.std.proofs.Common.{◌≡◌, ◌++◌, List, take}
use Rattle.key_types.specs.Columns.{columns_of}
use Rattle.script_text.specs.Puts.{Get}
use Rattle.script_text.specs.Pieces.{LendsGet}
use Rattle.shard_table.specs.Seats.{AreEach}
use Rattle.script_run.specs.Answers.{answer_lines}
use Rattle.script_run.proofs.answers.write_answers.Given as goal

abbrev pub invariant-answers : goal.invariant-answers
invariant-answers l = record {
  same : l.workers ≡ l.fn.workers;
  lines : (asked : List Get) → AreEach LendsGet l.gets asked → l.out ≡ l.fn.out ++ answer_lines (columns_of l.schema) l.fn.workers (take l.i asked) (take l.i l.answers);
}
