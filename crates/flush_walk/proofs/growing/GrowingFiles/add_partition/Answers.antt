use Rattle.std.proofs.Common.{refl, subst, w64}
use Rattle.std.specs.Prelude.{ℤ}
use Rattle.std.proofs.lemmas.Int.{to_z-of_z}
use Rattle.partition_index.specs.Writing.{AddsPartition, numbered}
use Rattle.partition_index.proofs.Settled.{early_index_grows}
use Rattle.flush_walk.proofs.Moves.{index_moves, written_index}
use Rattle.flush_walk.proofs.growing.GrowingFiles.add_partition.Goals as goal

pub returns-clause-moved : goal.returns-clause-moved
returns-clause-moved g c =
    λ t h room are.
    let p = numbered c.args.partition.now c.args.number in
    let old = g.K.Store.files c.args.store.now in
    let new = g.K.Store.files c.add.new.store in
    let added = subst (λ (z : ℤ). AddsPartition c.args.self.now.partitions c.add.new.self old new c.add.result (numbered c.args.partition.now z))
    (to_z-of_z w64 c.args.number c.ranges.number) c.add.ensures.added in
    index_moves c.args.self.now _ t _ _ (early_index_grows t.index.partitions p are) c.add.result _ _ h refl
    (written_index c.add.result _ _ t.index p h.index room added.writes) refl refl (added.appends t.index h.index)
