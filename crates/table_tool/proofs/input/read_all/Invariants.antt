use Rattle.std.proofs.Common.{◌≤◌, ◌-◌, length}
use Rattle.table_tool.specs.Input.{Taken}
use Rattle.table_tool.proofs.input.read_all.Given as goal

abbrev pub invariant-pages : goal.invariant-pages
invariant-pages g l =
    let left = g.S.Source.left in
    let faults = g.S.Source.faults in
    Taken (left l.initial.source) (left l.source) l.all × (faults l.initial.source ≤ faults l.source) × (length l.all ≤ 67108864)

abbrev pub decreases-pages : goal.decreases-pages
decreases-pages g l = 67108865 - length l.all
