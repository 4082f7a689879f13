use Rattle.std.proofs.Common.{◌≡◌, ◌≢◌, [], ◌≤◌, ◌-◌, IfSome}
use Rattle.key_types.specs.Columns.{columns_of}
use Rattle.key_decode.specs.Strings.{IsStringOf}
use Rattle.byte_order.specs.Strings.{Differ}
use Rattle.page_cache.specs.Pages.{Honest}
use Rattle.bti_reader.specs.Walks.{last_given}
use Rattle.bti_reader.specs.Ways.{Stands}
use Rattle.partition_check.proofs.Beside.{Beside}
use Rattle.partition_check.proofs.Turns.{left_of}
use Rattle.partition_check.proofs.partitions.compare_partitions.Given as goal

abbrev pub invariant-partitions : goal.invariant-partitions
invariant-partitions g l =
    let files = g.K.Store.files in
    let faults = g.K.Store.faults in
    record {
      came : Beside (columns_of l.schema) l.file l.fn.paths.file l.root l.fn.walk l.fn.first (last_given l.fn.paths.way) (files l.fn.store) l.at.key l.sum l.walk (last_given l.paths.way);
      string : IfSome l.sum (λ _. IsStringOf (columns_of l.schema).partition l.walk.key);
      differs : IfSome l.sum (λ _. l.at.key ≢ [] → Differ l.at.key l.walk.key);
      paths : l.paths ≡ record l.fn.paths { way = l.paths.way };
      honest : Honest (files l.store) l.cache;
      stands : Stands (files l.store) l.paths;
      same : files l.store ≡ files l.fn.store;
      later : faults l.fn.store ≤ faults l.store;
    }

abbrev pub decreases-partitions : goal.decreases-partitions
decreases-partitions g l = left_of l.sum (l.walk.window.limit - l.walk.window.at)
