use Rattle.std.proofs.Common.{ℕ, sym, subst, arith}
use Rattle.cell_layout.specs.Slots.{AddsChild}
use Rattle.cell_layout.proofs.Added.{adds_child, made}
use Rattle.cell_layout.proofs.sparse.sparse_add.Goals as goal

pub returns-clause-word : goal.returns-clause-word
returns-clause-word c = made c.args.word c.args.byte c.sparse_count-slot.result c.set_byte-bytes.result c.order_with-order.result c.sparse_count-slot.ensures c.set_byte-bytes.ensures.value c.order_with-order.ensures.value

pub returns-clause-child : goal.returns-clause-child
returns-clause-child c = λ h none_. subst (λ (x : ℕ). AddsChild c.args.word x c.args.byte) (sym (returns-clause-word c)) (adds_child c.args.word c.args.byte (omega (arith, c.ranges.word)) (omega (arith, c.ranges.byte)) c.requires h none_)
