use Rattle.std.proofs.Common.{arith}
use Rattle.cell_layout.proofs.Digits.{div_pow, insert_here}
use Rattle.cell_layout.proofs.sparse.+order_with.Goals as goal

pub order_with-requires : goal.order_with-requires
order_with-requires t c = (omega arith, (c.requires.small, (div_pow c.args.left c.args.order c.if-left-eq0.false c.requires.enough, omega (arith, c.requires.fits))))

pub returns-then-byte-word-clause-value : goal.returns-then-byte-word-clause-value
returns-then-byte-word-clause-value t c = insert_here c.args.word c.args.byte c.args.slot c.args.left c.args.order c.if-left-eq0.false c.if-order-eq0.false c.requires.enough c.if-byte-word.true
