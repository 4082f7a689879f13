use Rattle.std.proofs.Common.{◌≡◌, ℕ, List, drop}
use Rattle.trie_image.specs.Image.{reading}
use Rattle.shard_freeze.specs.Sorted.{entries_from}
use Rattle.shard_freeze.specs.Listing.{entries_seen_from}
use Rattle.shard_freeze.specs.Walk.{StandsInTrie}
use Rattle.shard_freeze.specs.Cursor.{sought}
use Rattle.shard_freeze.proofs.walk.Walk.seek.Given as goal

abbrev pub invariant-loop-byte : goal.invariant-loop-byte
invariant-loop-byte l = record {
  stands : StandsInTrie l.words.words l.self;
  sought : (value : ℕ → List ℕ) → entries_from l.from (entries_seen_from (reading l.words.words) value 2048 l.fn.self.here) ≡ sought l.words.words value (drop l.byte-index l.from) l.self;
}
