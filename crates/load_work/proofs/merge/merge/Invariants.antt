use Rattle.std.proofs.Common.{◌≡◌, ◌≤◌, ◌++◌, ℕ, Some, length, take, drop, slice_get, vec_len}
use Rattle.std.specs.Prelude.{reverse}
use Rattle.std.specs.Global.{Vec}
use Rattle.load_work.specs.declared.batch.Answer.{Answer}
use Rattle.load_work.specs.Reads.{gets_of}
use Rattle.load_work.specs.Merge.{answers_of}
use Rattle.load_work.proofs.merge.merge.Given as goal

abbrev pub invariant-gets : goal.invariant-gets
invariant-gets l = record {
  inside : l.left ≤ length l.gets;
  count : vec_len l.lists ≡ vec_len l.fn.lists;
  len : length l.answers.items ≡ length (drop l.left l.gets);
  long : (q : ℕ) (list : Vec Answer) → slice_get l.lists.items q ≡ Some list → length list.items ≡ length (gets_of q (take l.left l.gets));
  each : (q : ℕ) (all list : Vec Answer) → slice_get l.fn.lists.items q ≡ Some all → slice_get l.lists.items q ≡ Some list
      → all.items ≡ list.items ++ answers_of q (drop l.left l.gets) (reverse l.answers.items);
}

abbrev pub decreases-gets : goal.decreases-gets
decreases-gets l = l.left
