use Rattle.cell_layout.proofs.Added.{slot_is}
use Rattle.cell_layout.proofs.law_slots.Goals as goal

pub returns : goal.returns
returns c = slot_is
