use Rattle.std.proofs.Common.{◌≡◌, ℕ, ◌<◌, ◌≤◌, Some, slice_get, length}
use Rattle.script_text.specs.declared.spans.GetLine.{GetLine}
use Rattle.load_work.specs.declared.batch.Answer.{Answer}
use Rattle.load_work.specs.Merge.{IsBounded}
use Rattle.load_work.proofs.settle.bound_all.Given as goal

abbrev pub invariant-loop-i : goal.invariant-loop-i
invariant-loop-i l = record {
  same : l.writers ≡ l.fn.writers;
  len : length l.answers ≡ length l.fn.answers;
  left : (j : ℕ) → l.i ≤ j → slice_get l.answers j ≡ slice_get l.fn.answers j;
  bounded : (j : ℕ) (g : GetLine) (a b : Answer) → j < l.i → slice_get l.gets j ≡ Some g → slice_get l.fn.answers j ≡ Some a → slice_get l.answers j ≡ Some b → IsBounded l.fn.writers g a b;
}
