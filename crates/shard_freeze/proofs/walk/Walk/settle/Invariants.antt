use Rattle.shard_freeze.specs.Walk.{StandsInTrie, SameLeft, size_of}
use Rattle.shard_freeze.proofs.walk.Walk.settle.Given as goal

abbrev pub invariant-steps : goal.invariant-steps
invariant-steps l = record {
  stands : StandsInTrie l.words.words l.self;
  left : SameLeft l.words.words l.fn.self l.self;
}

abbrev pub decreases-steps : goal.decreases-steps
decreases-steps l = size_of l.self
