use Rattle.std.proofs.Common.{◌≡◌, ℕ, List, ◌+◌, ◌-◌, ◌*◌, ◌/◌, ◌%◌, slice_get, length, take, drop, ap, sym, refl, ◌∙◌, arith}
use Rattle.cell_layout.specs.Cells.{chain_cell, padded, next_cell}
use Rattle.cell_layout.proofs.WordsAt.{next_last, next_other, chain_at}
use Rattle.cell_layout.proofs.cells.word_of_chain.Goals as goal
use Rattle.cell_layout.proofs.cells.word_of_chain.Goals.{then-after-eq0, else-after-eq0}

pub returns : goal.returns
returns c = let cell : ℕ = c.args.place / 4 in let after : ℕ = c.args.cells - 1 - cell in let long : ℕ = length c.args.bytes.now in
    let next : c.if-after-eq0.next ≡ next_cell (c.args.first + cell) after c.args.end = elim c.if-after-eq0.branch [
      | then-after-eq0 w ↦ w.next-is ∙ next_last (c.args.first + cell) after c.args.end w.if-after-eq0.true
      | else-after-eq0 w ↦ w.next-is ∙ next_other (c.args.first + cell) after c.args.end w.if-after-eq0.false
    ] in
    chain_at c.args.first c.args.cells cell (c.args.place % 4) (long - 28 * (after + 1)) (long - 28 * after - (long - 28 * (after + 1))) after c.args.place c.args.bytes.now c.args.end (omega arith) (omega arith) c.requires.least c.requires.most refl refl (omega arith)
    ∙ (ap (λ (x : ℕ). slice_get (chain_cell (padded (take (long - 28 * after - (long - 28 * (after + 1))) (drop (long - 28 * (after + 1)) c.args.bytes.now))) x) (c.args.place % 4)) (sym next)
    ∙ (ap (λ (p : List ℕ). slice_get (chain_cell (padded p) c.if-after-eq0.next) (c.args.place % 4)) (sym c.bytes_of_cell-part.ensures.bytes) ∙ c.word_of_chain_cell.ensures))
