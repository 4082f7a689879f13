use Rattle.std.proofs.Common.{arith}
use Rattle.std.specs.Prelude.{negsuc, pos}
use Rattle.partition_index.specs.Writing.{no_partitions, numbered, with_partition}
use Rattle.partition_index.proofs.tests.write_two.Goals as goal

pub add-requires-clause-key : goal.add-requires-clause-key
add-requires-clause-key c = record { indexing = no_partitions _; writes = c.new-writer.ensures; behind = tt; few = omega (arith, c.requires.most_first) }

pub add-requires-2-clause-key : goal.add-requires-2-clause-key
add-requires-2-clause-key c = record {
  indexing = with_partition (no_partitions _) (numbered c.args.first.now (negsuc 0));
  writes = c.in_ok-add.ensures.added.writes _ c.new-writer.ensures (omega (arith, c.requires.most_first));
  behind = c.requires.apart;
  few = omega (arith, c.requires.most_first, c.requires.most_second);
}

pub finish-requires : goal.finish-requires
finish-requires c =
    let one = c.in_ok-add.ensures.added.writes _ c.new-writer.ensures (omega (arith, c.requires.most_first)) in (
      with_partition (with_partition (no_partitions _) (numbered c.args.first.now (negsuc 0))) (numbered c.args.second.now (pos 40)),
      c.in_ok-add-2.ensures.added.writes _ one (omega (arith, c.requires.most_first, c.requires.most_second)),
    )
