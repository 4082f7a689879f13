use Rattle.std.proofs.Common.{◌≡◌, ◌-◌, length}
use Rattle.shard_table.specs.Together.{IsCursorOf, TableCursorAt, left_in}
use Rattle.shard_table.proofs.frozen.FrozenTable.next_into.Given as goal

abbrev pub invariant-steps : goal.invariant-steps
invariant-steps l = let cursor : TableCursorAt = record { shard = l.cursor-inside.shard; cursor = l.cursor-inside.cursor } in record {
  own : IsCursorOf l.fn.self cursor;
  left : left_in l.fn.self cursor ≡ left_in l.fn.self l.fn.cursor;
}

abbrev pub decreases-steps : goal.decreases-steps
decreases-steps l = length l.fn.self - l.cursor-inside.shard
