use Rattle.std.proofs.Common.{◌≡◌, ◌++◌, List, vec_len}
use Rattle.std.specs.Prelude.{reverse}
use Rattle.trie_rule.specs.Seats.{WriterAt}
use Rattle.shard_table.specs.Seats.{AreEach, IsFreeWriter, IsClosed}
use Rattle.shard_table.proofs.frozen.freeze_each.Given as goal

abbrev pub invariant-shards : goal.invariant-shards
invariant-shards l = record {
  left : AreEach IsFreeWriter l.shards.items l.writers.items;
  closed : (rest : List WriterAt) × (l.fn.writers.items ≡ l.writers.items ++ rest) × AreEach IsClosed rest (reverse l.frozen.items);
}

abbrev pub decreases-shards : goal.decreases-shards
decreases-shards l = vec_len l.writers
