use Rattle.std.proofs.Common.{◌≡◌, ◌≤◌, ◌-◌}
use Rattle.key_types.specs.Columns.{columns_of}
use Rattle.page_cache.specs.Pages.{Honest}
use Rattle.bti_reader.specs.Ways.{Stands}
use Rattle.data_walk.specs.DataWalk.{IsPlace, place_of}
use Rattle.row_check.proofs.Compared.{ComesTo}
use Rattle.row_check.proofs.blocks.compare_blocks.Given as goal

abbrev pub invariant-offsets : goal.invariant-offsets
invariant-offsets g l =
    let files = g.K.Store.files in
    let faults = g.K.Store.faults in
    record {
      came : ComesTo (columns_of l.schema) l.file l.fn.paths.file l.root (files l.fn.store) l.fn.walk l.fn.paths l.walk l.paths;
      place : IsPlace (place_of l.walk);
      file : l.paths.file ≡ l.fn.paths.file;
      root : l.paths.root ≡ l.fn.paths.root;
      honest : Honest (files l.store) l.cache;
      stands : Stands (files l.store) l.paths;
      same : files l.store ≡ files l.fn.store;
      later : faults l.fn.store ≤ faults l.store;
    }

abbrev pub decreases-offsets : goal.decreases-offsets
decreases-offsets g l = l.walk.window.limit - l.walk.window.at
