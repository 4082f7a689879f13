use Rattle.std.proofs.Common.{◌≡◌, length}
use Rattle.trie_image.specs.Place.{measure_of}
use Rattle.trie_image.specs.Way.{OnTheWay}
use Rattle.trie_image.proofs.find.find.Given as goal

abbrev pub invariant-loads : goal.invariant-loads
invariant-loads g l = record {
  way : OnTheWay (g.W.WordSource.image l.from l.fn.seat) l.key l.place;
  same : l.seat ≡ l.fn.seat;
}

abbrev pub decreases-loads : goal.decreases-loads
decreases-loads g l = measure_of l.place (length l.key)
