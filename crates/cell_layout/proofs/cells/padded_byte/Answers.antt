use Rattle.std.proofs.Common.{sym, arith}
use Rattle.cell_layout.proofs.CellBytes.{padded_byte}
use Rattle.cell_layout.proofs.WordsAt.{padded_zero}
use Rattle.cell_layout.proofs.cells.padded_byte.Goals as goal

pub returns-then-offset-bytes-ge28 : goal.returns-then-offset-bytes-ge28
returns-then-offset-bytes-ge28 c = sym (padded_byte c.args.bytes.now c.args.offset (omega arith) (omega arith))

pub returns-else-offset-bytes-ge28 : goal.returns-else-offset-bytes-ge28
returns-else-offset-bytes-ge28 c = sym (padded_zero c.args.bytes.now c.args.offset (omega arith) (omega arith))
