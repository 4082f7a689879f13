use Rattle.std.proofs.Common.{◌≡◌, ℕ, ◌<◌, Some, All, slice_get, length}
use Rattle.std.specs.Global.{Vec}
use Rattle.trie_rule.specs.Seats.{ReaderAt}
use Rattle.shard_table.specs.Seats.{AreEach, IsFreeReader}
use Rattle.load_work.specs.Work.{HasLearnt}
use Rattle.load_work.specs.Merge.{ReadersHaveGrown}
use Rattle.load_work.proofs.settle.learn_all.Given as goal

abbrev pub invariant-loop-q : goal.invariant-loop-q
invariant-loop-q l = record {
  same : l.writers ≡ l.fn.writers;
  count : length l.readers ≡ length l.fn.readers;
  reading : All (λ seats. AreEach IsFreeReader l.table.shards seats.items) l.readers;
  grown : ReadersHaveGrown l.fn.readers l.readers;
  learnt : (p : ℕ) (seats : Vec ReaderAt) → p < l.q → slice_get l.readers p ≡ Some seats → AreEach HasLearnt l.fn.writers seats.items;
}
