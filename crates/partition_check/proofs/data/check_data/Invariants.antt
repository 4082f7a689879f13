use Rattle.std.proofs.Common.{◌≡◌, ◌≤◌, ◌<◌, ◌-◌, ◌^◌}
use Rattle.key_types.specs.Columns.{columns_of}
use Rattle.partition_check.proofs.Walked.{Came}
use Rattle.partition_check.proofs.data.check_data.Given as goal

abbrev pub invariant-partitions : goal.invariant-partitions
invariant-partitions g l =
    let files = g.K.Store.files in
    let faults = g.K.Store.faults in
    record {
      came : Came (columns_of l.schema) l.file (files l.fn.store) (record { first = l.first; last = l.walk.key; counts = l.counts }) l.walk;
      limit : l.walk.window.limit ≡ l.limit;
      few : l.limit < 2 ^ 62;
      inside : l.walk.window.at ≤ l.limit;
      partitions : l.counts.partitions ≤ l.walk.window.at;
      rows : l.counts.rows ≤ l.walk.window.at;
      same : files l.store ≡ files l.fn.store;
      later : faults l.fn.store ≤ faults l.store;
    }

abbrev pub decreases-partitions : goal.decreases-partitions
decreases-partitions g l = l.limit - l.walk.window.at
