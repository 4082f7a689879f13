use Rattle.std.proofs.Common.{◌≡◌, ◌≤◌, ◌-◌, IsTrue}
use Rattle.bti_nodes.specs.Spelling.{least_from, size_by, shape_holds, kind_of_number}
use Rattle.bti_nodes.proofs.outline.least.Given as goal

abbrev pub invariant-loop-number : goal.invariant-loop-number
invariant-loop-number l = record {
  best : l.best ≡ least_from (14 - l.number) l.number l.o;
  size : l.size ≡ size_by l.best l.o;
  low : 1 ≤ l.number;
  written : l.best ≤ 14;
  held : IsTrue (shape_holds (kind_of_number l.best).shape l.o);
}
