use Rattle.cell_layout.proofs.WordsAt.{padded_four}
use Rattle.cell_layout.proofs.cells.padded_last.Goals as goal

pub returns : goal.returns
returns c = padded_four c.args.bytes.now c.low_number.result c.padded_byte.ensures c.padded_byte-2.ensures c.padded_byte-3.ensures c.padded_byte-4.ensures c.low_number.ensures
