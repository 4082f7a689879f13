use Rattle.std.proofs.Common.{ℤ, w64, arith, subst}
use Rattle.std.proofs.lemmas.Int.{to_z-of_z}
use Rattle.outside.specs.declared.store.FileId.{FileId}
use Rattle.outside.specs.declared.store.Part.TheVariants.{Partitions}
use Rattle.partition_index.specs.Writing.{Indexing, WritesIndex, no_partitions, numbered, with_partition}
use Rattle.partition_index.proofs.tests.write_one.Goals as goal

pub add-requires-clause-key : goal.add-requires-clause-key
add-requires-clause-key c = record { indexing = no_partitions _; writes = c.new-writer.ensures; behind = tt; few = omega (arith, c.requires.most) }

pub finish-requires : goal.finish-requires
finish-requires c =
    let file : FileId = record { generation = 1; part = Partitions } in
    let written : ℤ → Indexing = λ n. with_partition (no_partitions file) (numbered c.args.string.now n) in (
      written c.args.number,
      subst (λ (n : ℤ). WritesIndex c.add.new.self (written n)) (to_z-of_z w64 c.args.number c.ranges.number)
          (c.in_ok-add.ensures.added.writes _ c.new-writer.ensures (omega (arith, c.requires.most))),
    )
