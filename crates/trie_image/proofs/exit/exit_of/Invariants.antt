use Rattle.std.proofs.Common.{◌≡◌, drop}
use Rattle.trie_image.specs.Exit.{IsInside, exit_at, exit_of}
use Rattle.trie_image.proofs.exit.exit_of.Given as goal

-- the walk from here is the walk from the root, in the same image
abbrev pub invariant-bytes : goal.invariant-bytes
invariant-bytes g l = record {
  walk : exit_at (g.W.WordSource.image l.from l.fn.seat) (drop l.taken l.key) l.here l.taken ≡ exit_of (g.W.WordSource.image l.from l.fn.seat) l.key;
  inside : IsInside l.here;
  same : l.seat ≡ l.fn.seat;
}
