use Rattle.std.proofs.Common.{◌≡◌, ◌≤◌, ◌-◌}
use Rattle.key_types.specs.Columns.{columns_of}
use Rattle.page_cache.specs.Pages.{Honest}
use Rattle.bti_reader.specs.Ways.{Stands}
use Rattle.row_check.proofs.Entered.{ComesTo}
use Rattle.row_check.proofs.entries.compare_entries.Given as goal

abbrev pub invariant-partitions : goal.invariant-partitions
invariant-partitions g l =
    let files = g.K.Store.files in
    let faults = g.K.Store.faults in
    record {
      came : ComesTo (columns_of l.schema) l.generation l.root (files l.fn.store) l.fn.walk l.fn.paths l.walk l.paths;
      file : l.paths.file ≡ l.fn.paths.file;
      root : l.paths.root ≡ l.fn.paths.root;
      honest : Honest (files l.store) l.cache;
      stands : Stands (files l.store) l.paths;
      same : files l.store ≡ files l.fn.store;
      later : faults l.fn.store ≤ faults l.store;
    }

abbrev pub decreases-partitions : goal.decreases-partitions
decreases-partitions g l = l.walk.window.limit - l.walk.window.at
