use Rattle.std.proofs.Common.{◌≡◌, ◌+◌, ◌≤◌, ◌-◌}
use Rattle.key_types.specs.Columns.{columns_of}
use Rattle.data_walk.specs.DataWalk.{IsPlace, place_of}
use Rattle.data_walk.proofs.Steps.{Counted}
use Rattle.data_walk.proofs.data_walk.DataWalk.count_blocks.Given as goal

abbrev pub invariant-counted : goal.invariant-counted
invariant-counted g l =
    let files = g.K.Store.files in
    let faults = g.K.Store.faults in
    record {
      came : Counted (columns_of l.schema) l.file (files l.fn.store) l.blocks l.fn.self l.self;
      place : IsPlace (place_of l.self);
      few : l.blocks ≤ l.self.window.at + 1;
      key : l.self.key ≡ l.fn.self.key;
      head : l.self.head ≡ l.fn.self.head;
      on : l.fn.self.window.at ≤ l.self.window.at;
      limit : l.self.window.limit ≡ l.fn.self.window.limit;
      same : files l.store ≡ files l.fn.store;
      later : faults l.fn.store ≤ faults l.store;
    }

abbrev pub decreases-counted : goal.decreases-counted
decreases-counted g l = l.self.window.limit - l.self.window.at
