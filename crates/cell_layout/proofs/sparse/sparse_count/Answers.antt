use Rattle.std.proofs.Common.{◌/◌, ◌^◌, sym, arith}
use Rattle.cell_layout.specs.Slots.{slots_of}
use Rattle.cell_layout.proofs.Digits.{count_is}
use Rattle.cell_layout.proofs.sparse.sparse_count.Goals as goal

pub returns-in-0 : goal.returns-in-0
unfolding slots_of
returns-in-0 c = sym (count_is 7 0 (c.args.word / 2 ^ 48) (omega arith) (omega arith) (λ z. omega arith))

pub returns-in-1-to-5 : goal.returns-in-1-to-5
unfolding slots_of
returns-in-1-to-5 c = sym (count_is 7 1 (c.args.word / 2 ^ 48) (omega arith) (omega arith) (λ z. omega arith))

pub returns-in-6-to-35 : goal.returns-in-6-to-35
unfolding slots_of
returns-in-6-to-35 c = sym (count_is 7 2 (c.args.word / 2 ^ 48) (omega arith) (omega arith) (λ z. omega arith))

pub returns-in-36-to-215 : goal.returns-in-36-to-215
unfolding slots_of
returns-in-36-to-215 c = sym (count_is 7 3 (c.args.word / 2 ^ 48) (omega arith) (omega arith) (λ z. omega arith))

pub returns-in-216-to-1295 : goal.returns-in-216-to-1295
unfolding slots_of
returns-in-216-to-1295 c = sym (count_is 7 4 (c.args.word / 2 ^ 48) (omega arith) (omega arith) (λ z. omega arith))

pub returns-in-1296-to-7775 : goal.returns-in-1296-to-7775
unfolding slots_of
returns-in-1296-to-7775 c = sym (count_is 7 5 (c.args.word / 2 ^ 48) (omega arith) (omega arith) (λ z. omega arith))

pub returns-in-7776-to-46655 : goal.returns-in-7776-to-46655
unfolding slots_of
returns-in-7776-to-46655 c = sym (count_is 7 6 (c.args.word / 2 ^ 48) (omega arith) (omega arith) (λ z. omega arith))

pub returns-in_default : goal.returns-in_default
unfolding slots_of
returns-in_default c = sym (count_is 7 7 (c.args.word / 2 ^ 48) (omega arith) (omega (arith, c.ranges.word)) (λ z. omega arith))
