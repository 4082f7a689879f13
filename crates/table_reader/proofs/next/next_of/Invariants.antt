use Rattle.std.proofs.Common.{◌≡◌, ◌≤◌, ◌-◌, length}
use Rattle.std.specs.Prelude.{max}
use Rattle.key_types.specs.Columns.{columns_of}
use Rattle.table_reader.specs.Ranges.{IsOpen, inside_of}
use Rattle.table_reader.specs.Window.{PaysReads, most_ahead}
use Rattle.table_reader.proofs.Giving.{Came}
use Rattle.table_reader.proofs.Nearing.{Nears}
use Rattle.table_reader.proofs.next.next_of.Given as goal

abbrev pub invariant-steps : goal.invariant-steps
invariant-steps g l =
    let files = g.K.Store.files in
    let faults = g.K.Store.faults in
    record {
      came : Came (columns_of l.schema) l.file l.fn.walk (files l.fn.store) l.walk;
      nears : Nears (columns_of l.schema) l.file l.fn.walk (files l.fn.store) l.walk;
      at : l.fn.walk.window.at ≤ l.walk.window.at;
      inside : IsOpen (columns_of l.schema) (inside_of l.fn.walk) → IsOpen (columns_of l.schema) (inside_of l.walk);
      limit : l.walk.window.limit ≡ l.fn.walk.window.limit;
      same : files l.store ≡ files l.fn.store;
      ahead : length l.walk.window.bytes ≤ max (length l.fn.walk.window.bytes) most_ahead;
      paid : PaysReads l.fn.walk.window l.walk.window (g.K.Store.reads l.fn.store) (g.K.Store.reads l.store);
      later : faults l.fn.store ≤ faults l.store;
    }

abbrev pub decreases-steps : goal.decreases-steps
decreases-steps g l = l.walk.window.limit - l.walk.window.at
