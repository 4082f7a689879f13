use Rattle.std.proofs.Common.{◌==◌, ℕ, sym, ◌∙◌, arith}
use Rattle.cell_layout.specs.Slots.{slot_at, slot_bytes, child_count}
use Rattle.cell_layout.proofs.Positions.{from_taken, from_past, from_none}
use Rattle.cell_layout.proofs.sparse.sparse_find.Goals as goal

pub returns-in-Some : goal.returns-in-Some
unfolding slot_at
returns-in-Some c = sym (from_taken (λ (x : ℕ). x == c.args.byte) 0 (child_count c.args.word) (slot_bytes c.args.word) c.in-Some.slot (sym c.in-Some.ensures) (omega arith))

pub returns-in_default : goal.returns-in_default
unfolding slot_at
returns-in_default c = sym (from_past (λ (x : ℕ). x == c.args.byte) 0 (child_count c.args.word) (slot_bytes c.args.word) c.in-Some.slot (sym c.in-Some.ensures) (omega arith))

pub returns-in_default-2 : goal.returns-in_default-2
unfolding slot_at
returns-in_default-2 c = sym (from_none (λ (x : ℕ). x == c.args.byte) 0 (child_count c.args.word) (slot_bytes c.args.word) (sym c.first_slot.ensures ∙ c.in_default.is))
