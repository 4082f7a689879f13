use Rattle.std.proofs.Common.{IsSome}
use Rattle.gets_bench.proofs.get_lines.Given as goal

abbrev pub invariant-lines : goal.invariant-lines
invariant-lines g l = IsSome l.table.footer
