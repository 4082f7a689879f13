use Rattle.std.proofs.Common.{◌≡◌, ◌≤◌, length, map}
use Rattle.key_types.specs.Columns.{columns_of}
use Rattle.shard_table.specs.Together.{IsCursorOf, left_in, shard_entries}
use Rattle.flush_walk.specs.Flushed.{all_given}
use Rattle.flush_walk.specs.Given.{Flushing, TakesEntries, with_entries}
use Rattle.flush_walk.specs.TableEntries.{AreTableEntries, given_in}
use Rattle.flush_walk.specs.Writing.{WritesTable}
use Rattle.flush_walk.proofs.shards.flush.Given as goal

abbrev pub invariant-entries : goal.invariant-entries
invariant-entries g l =
    let files = g.K.Store.files in
    let columns = columns_of l.schema in
    let left = left_in l.table l.cursor in
    record {
      own : IsCursorOf l.table l.cursor;
      given : Flushing;
      writes : WritesTable l.writer given (files l.store);
      entries : AreTableEntries columns left;
      takes : TakesEntries given (map (given_in columns) left);
      whole : with_entries given (map (given_in columns) left) ≡ all_given l.generation columns (files l.initial.store) (shard_entries l.table);
      later : g.K.Store.faults l.initial.store ≤ g.K.Store.faults l.store;
    }

abbrev pub decreases-entries : goal.decreases-entries
decreases-entries g l = length (left_in l.table l.cursor)
