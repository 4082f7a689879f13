use Rattle.std.proofs.Common.{refl}
use Rattle.row_index.specs.Writing.{no_rows}
use Rattle.row_index.proofs.tests.write_none.Goals as goal

pub finish-requires : goal.finish-requires
finish-requires c = (no_rows _, c.new.ensures, refl)
