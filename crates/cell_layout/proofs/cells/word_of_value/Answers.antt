use Rattle.std.proofs.Common.{List, ℕ, ◌*◌, ◌≤◌, length, take, drop, sym, ap, ◌∙◌, arith}
use Rattle.std.proofs.lemmas.List.{drop_all, take_all}
use Rattle.cell_layout.specs.Cells.{number_of_bytes}
use Rattle.cell_layout.proofs.cells.word_of_value.Goals as goal

pub returns-then-at-value : goal.returns-then-at-value
returns-then-at-value c = ap (λ (l : List ℕ). number_of_bytes (take 8 l)) (sym (drop_all (8 * c.args.place) c.args.value.now (omega arith)))

pub returns-then-rest-ge8 : goal.returns-then-rest-ge8
returns-then-rest-ge8 c = c.number.ensures ∙ ap (λ (l : List ℕ). number_of_bytes l) (c.split_at-then-rest-ge8.ensures.front ∙ ap (λ (l : List ℕ). take 8 l) c.split_at.ensures.back)

pub returns-else-rest-ge8 : goal.returns-else-rest-ge8
returns-else-rest-ge8 c = let rest : List ℕ = drop (8 * c.args.place) c.args.value.now in let few : length rest ≤ 8 = omega (arith, ap (λ (l : List ℕ). length l) c.split_at.ensures.back) in
    c.number-else-rest-ge8.ensures ∙ ap (λ (l : List ℕ). number_of_bytes l) (c.split_at.ensures.back ∙ sym (take_all 8 rest few))
