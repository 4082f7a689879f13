-- What a walk over Data.db has passed.
use Rattle.std.specs.Prelude.{◌≡◌, ℕ, List, [], ◌∷◌, ◌++◌, length, drop, Ok, Some}
use Rattle.std.specs.declared.cmp.Ordering.TheVariants.{Less}
use Rattle.key_types.specs.Columns.{Columns}
use Rattle.key_types.specs.Table.{string_cmp}
use Rattle.data_file.specs.Listing.{ArePartitions, Partition, partition_bytes}
use Rattle.table_files.specs.Standing.{RowsAscend}
use Rattle.data_walk.specs.declared.data_walk.PartitionSum.{PartitionSum}
use Rattle.data_walk.specs.DataWalk.{FindsPartition, Place}

-- A partition of the table stands between two places of a file, above the key that the walk had; it has a static value
-- or a row, and its rows ascend. The walk has its key then, and what it tells of it is its place and the number of its
-- rows.
pub record PassesPartition (columns : Columns) (file : List ℕ) (place place' : Place) (sum : PartitionSum)
    : Type 0 where
  pub partition : Partition
  pub is : ArePartitions columns (partition ∷ [])
  pub stands : drop place.at file ≡ partition_bytes columns.static_value partition ++ drop place'.at file
  pub above : string_cmp place.key partition.key ≡ Less
  pub ascend : RowsAscend (partition ∷ [])
  pub key : place'.key ≡ partition.key
  pub position : sum.position ≡ place.at
  pub rows : sum.rows ≡ length partition.rows

-- that is so of each partition that a walk finds
abbrev pub FoundIsPassed : Type 0
FoundIsPassed = (columns : Columns) (file : List ℕ) (place place' : Place) (sum : PartitionSum)
    → FindsPartition columns file place place' (Ok (Some sum)) → PassesPartition columns file place place' sum
