use Rattle.std.proofs.Common.{◌≡◌, ◌+◌, ◌<◌, ◌≤◌, length, take, drop}
use Rattle.page_packer.specs.Levels.{closes_over, AreLevels, laid_of}
use Rattle.page_packer.proofs.edge.close_levels.Given as goal

abbrev pub invariant-close : goal.invariant-close
invariant-close l = record {
  deep : l.depth ≤ length l.levels.items;
  front : take l.depth l.levels.items ≡ take l.depth l.initial.levels.items;
  levels : AreLevels l.start (drop l.depth l.levels.items);
  low : l.start ≤ l.root;
  high : l.root < l.start + length l.work.out;
  laid : closes_over (drop l.depth l.levels.items) (laid_of l.work.out l.root) l.start ≡ closes_over (drop l.depth l.initial.levels.items) (laid_of l.initial.work.out l.fn.first) l.start;
}

abbrev pub decreases-close : goal.decreases-close
decreases-close l = length l.levels.items
