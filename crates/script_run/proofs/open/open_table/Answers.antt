use Rattle.std.proofs.Common.{ℕ, List, ◌+◌, Err, length, ap, sym, ◌∙◌}
use Rattle.script_run.proofs.Opened.{new_stands}
use Rattle.script_run.proofs.open.open_table.Goals as goal

pub returns-in-Ok-clause-stand : goal.returns-in-Ok-clause-stand
returns-in-Ok-clause-stand c =
    let made = c.in-Ok.ensures in
    new_stands c.args.cells c.in-Ok.made.0 c.in-Ok.made.1 (made.count ∙ ap (λ (b : List (List ℕ)). length b + 1) (sym made.bounds)) made.cells made.workers made.writers made.readers

pub unreachable-requires : goal.unreachable-requires
unreachable-requires c =
    let first = (c.new.ensures.bad c.in-Err-BadBounds.field-0-0).0 (c.in-Err-BadBounds.is ∙ ap Err c.in-Err-BadBounds.field-0-is) in
    first.unordered (c.requires.ascend c.in-Err-BadBounds.field-0-0 first.least first.inside)
