use Rattle.std.proofs.Common.{◌≡◌, ℕ, ◌-◌, ◌<◌, ◌≤◌}
use Rattle.trie_image.specs.Image.{split_child}
use Rattle.shard_freeze.proofs.edges.least_of_split.Given as goal

abbrev pub invariant-bytes : goal.invariant-bytes
invariant-bytes l = record {
  least : l.low ≤ l.byte;
  none : (c : ℕ) → l.low ≤ c → c < l.byte → c < 256 → split_child l.words.words l.top c ≡ 0;
}

abbrev pub decreases-bytes : goal.decreases-bytes
decreases-bytes l = 256 - l.byte
