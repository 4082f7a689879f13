use Rattle.std.proofs.Common.{◌≡◌, ℕ, ◌<◌, Some, slice_get}
use Rattle.trie_rule.specs.Seats.{WriterAt, ReaderAt}
use Rattle.shard_table.specs.Seats.{AreEach, IsFreeReader}
use Rattle.load_work.specs.Reads.{HasGrown}
use Rattle.load_work.specs.Work.{HasLearnt}
use Rattle.load_work.proofs.settle.learn_each.Given as goal

abbrev pub invariant-loop-i : goal.invariant-loop-i
invariant-loop-i l = record {
  same : l.writers ≡ l.fn.writers;
  reading : AreEach IsFreeReader l.table.shards l.seats;
  grown : AreEach HasGrown l.fn.seats l.seats;
  learnt : (j : ℕ) (w : WriterAt) (s : ReaderAt) → j < l.i → slice_get l.fn.writers j ≡ Some w → slice_get l.seats j ≡ Some s → HasLearnt w s;
}
