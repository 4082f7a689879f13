use Rattle.std.proofs.Common.{◌≡◌, ◌≤◌, ◌-◌}
use Rattle.key_types.specs.Columns.{columns_of}
use Rattle.data_walk.specs.DataWalk.{IsPlace, place_of}
use Rattle.data_walk.proofs.Steps.{Came}
use Rattle.data_walk.proofs.data_walk.DataWalk.next_block.Given as goal

abbrev pub invariant-rows : goal.invariant-rows
invariant-rows g l =
    let files = g.K.Store.files in
    let faults = g.K.Store.faults in
    record {
      came : Came (columns_of l.schema) (files l.fn.store) l.file l.fn.self l.self;
      place : IsPlace (place_of l.self);
      key : l.self.key ≡ l.fn.self.key;
      head : l.self.head ≡ l.fn.self.head;
      on : l.fn.self.window.at ≤ l.self.window.at;
      limit : l.self.window.limit ≡ l.fn.self.window.limit;
      same : files l.store ≡ files l.fn.store;
      later : faults l.fn.store ≤ faults l.store;
    }

abbrev pub decreases-rows : goal.decreases-rows
decreases-rows g l = l.self.window.limit - l.self.window.at
