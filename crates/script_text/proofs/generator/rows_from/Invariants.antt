use Rattle.std.proofs.Common.{◌-◌, ◌≡◌, ◌≤◌}
use Rattle.script_text.specs.Generator.{number_at, first_rows}
use Rattle.script_text.proofs.generator.rows_from.Given as goal

abbrev pub invariant-rows : goal.invariant-rows
invariant-rows l = (l.out ≡ first_rows l.seed l.count l.gets l.row) × (l.number ≡ number_at l.seed l.row) × (l.row ≤ l.count)

abbrev pub decreases-rows : goal.decreases-rows
decreases-rows l = l.count - l.row
