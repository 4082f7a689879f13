use Rattle.std.proofs.Common.{refl}
use Rattle.flush_walk.proofs.Moves.{listing_moves}
use Rattle.flush_walk.proofs.growing.GrowingFiles.open_partition.Goals as goal

pub returns-clause-moved : goal.returns-clause-moved
returns-clause-moved g c =
    λ t h.
    listing_moves c.args.self.now _ t _ c.open_partition.result _ _ h refl refl c.open_partition.ensures.file c.open_partition.ensures.position c.open_partition.ensures.written
