use Rattle.partition_index.specs.Writing.{no_partitions}
use Rattle.partition_index.proofs.tests.write_none.Goals as goal

pub finish-requires : goal.finish-requires
finish-requires c = (no_partitions _, c.new.ensures)
