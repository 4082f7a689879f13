use Rattle.std.proofs.Common.{◌≡◌, ◌+◌, ◌*◌, ◌^◌, ◌<◌, ◌≤◌, [], ◌++◌, length}
use Rattle.bti_nodes.specs.Spelling.{bytes_in}
use Rattle.page_packer.specs.Tree.{tree}
use Rattle.page_packer.specs.Sound.{Sound, counts}
use Rattle.page_packer.specs.Early.{early}
use Rattle.page_packer.specs.Edge.{left}
use Rattle.page_packer.specs.Boxes.{branches_of, IsWeighed}
use Rattle.page_packer.specs.Levels.{tree_in, edge_over}
use Rattle.page_packer.proofs.edge.settle.Given as goal

abbrev pub invariant-heavy : goal.invariant-heavy
invariant-heavy l = record {
  sound : Sound (tree (bytes_in l.payload) (branches_of l.children));
  weighed : IsWeighed l.children;
  few : counts (branches_of l.children) ≤ 2 ^ 31;
  room : l.start + length l.work.out + 30 * counts (branches_of l.children) < 2 ^ 61;
  none : l.work.stood.items ≡ [];
  bytes : l.work.out ++ early (tree (bytes_in l.payload) (branches_of l.children)) (l.start + length l.work.out) ≡ l.initial.work.out ++ early (tree_in l.fn.held) (l.start + length l.initial.work.out);
  edge : edge_over l.levels.items (left (tree (bytes_in l.payload) (branches_of l.children)) (l.start + length l.work.out)) ≡ edge_over l.initial.levels.items (left (tree_in l.fn.held) (l.start + length l.initial.work.out));
}

abbrev pub decreases-heavy : goal.decreases-heavy
decreases-heavy l = counts (branches_of l.children)
