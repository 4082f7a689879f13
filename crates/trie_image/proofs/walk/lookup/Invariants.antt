use Rattle.std.proofs.Common.{length}
use Rattle.trie_image.specs.Place.{measure_of}
use Rattle.trie_image.specs.Way.{OnTheWay}
use Rattle.trie_image.proofs.walk.lookup.Given as goal

abbrev pub invariant-loads : goal.invariant-loads
invariant-loads l = OnTheWay l.words l.key l.place

abbrev pub decreases-loads : goal.decreases-loads
decreases-loads l = measure_of l.place (length l.key)
