-- What lies ahead of a walk over Data.db where the file lists partitions, and what the walk finds there.
use Rattle.std.specs.Prelude.{◌≡◌, ℕ, ◌+◌, ◌-◌, Bool, List, [], ◌∷◌, ◌++◌, length, drop, map, Option, Some, None, Result, Ok, Err}
use Rattle.std.specs.declared.cmp.Ordering.TheVariants.{Less}
use Rattle.key_types.specs.Columns.{Columns}
use Rattle.key_types.specs.Table.{string_cmp}
use Rattle.data_file.specs.Listing.{ArePartitions, AreRows, Lists, Partition, Row, data_bytes, end_bytes, partition_bytes, rows_bytes}
use Rattle.row_index.specs.Entries.{Block}
use Rattle.table_files.specs.Blocks.{blocks_among, blocks_behind, blocks_of}
use Rattle.table_files.specs.Standing.{RowsAscend, StringsAscend}
use Rattle.data_walk.specs.declared.data_walk.PartitionSum.{PartitionSum}
use Rattle.data_walk.specs.declared.refusal.Refusal.{Refusal}
use Rattle.data_walk.specs.Refusals.{IsFault}
use Rattle.data_walk.specs.DataWalk.{Enters, FindsBlock, FindsPartition, IsPlace, Place, place_at}

-- ---- inside a partition

-- The blocks that begin with one of these rows, from a place inside a partition on: behind its head, where the string
-- is empty, or behind a row of this string.
abbrev pub blocks_from : Place → List ℕ → List Row → List Block
blocks_from place [] rows = blocks_among (place.at - place.head) rows
blocks_from place (b ∷ row) rows = blocks_behind (place.block - place.head) (b ∷ row) (place.at - place.head) rows

-- From a place inside a partition on these rows stand, each above the one before it, and then the end of the partition,
-- behind which these bytes stand.
pub record RowsAhead (columns : Columns) (file : List ℕ) (place : Place) (rows : List Row) (rest : List ℕ)
    : Type 0 where
  pub is : IsPlace place
  -- before its first row the walk is in the partition's first block
  pub start : place.row ≡ [] → place.block ≡ place.head
  pub are : AreRows columns rows
  pub above : StringsAscend (place.row ∷ map (λ row. row.clustering) rows)
  pub stands : drop place.at file ≡ rows_bytes rows ++ 0 ∷ rest

-- From a place inside a partition on these blocks are still to begin, and the partition ends before `behind`.
pub record BlocksAhead (columns : Columns) (file : List ℕ) (behind : ℕ) (place : Place) (blocks : List Block)
    : Type 0 where
  pub rows : List Row
  pub rest : List ℕ
  pub ahead : RowsAhead columns file place rows rest
  pub begins : blocks_from place place.row rows ≡ blocks
  pub ends : behind ≡ place.at + length (rows_bytes rows ++ end_bytes)

-- how the walk to the next block ends, where these are still to begin: it meets the first of them, and the end of the
-- partition where there is none; the store may fail and memory run out
abbrev pub MeetsBlock : Columns → List ℕ → ℕ → Place → Result (Option ℕ) Refusal → List Block → Type 0
MeetsBlock columns file behind place' (Ok None) [] = place'.at ≡ behind
MeetsBlock columns file behind place' (Ok None) (block ∷ blocks) = ⊥
MeetsBlock columns file behind place' (Ok (Some offset)) [] = ⊥
MeetsBlock columns file behind place' (Ok (Some offset)) (block ∷ blocks) =
    (offset ≡ block.offset) × (place'.before ≡ block.before) × (place'.row ≡ block.first)
    × BlocksAhead columns file behind place' blocks
MeetsBlock columns file behind place' (Err e) blocks = IsFault e

-- ---- between partitions

-- A partition of the table stands at a place, above the key that the walk has; it has a static value or a row, and its
-- rows ascend.
pub record PartitionAhead (columns : Columns) (file : List ℕ) (place : Place) (partition : Partition) : Type 0 where
  pub is : ArePartitions columns (partition ∷ [])
  pub rest : List ℕ
  pub stands : drop place.at file ≡ partition_bytes columns.static_value partition ++ rest
  pub above : string_cmp place.key partition.key ≡ Less
  pub ascend : RowsAscend (partition ∷ [])

-- where it ends
abbrev pub end_of : Columns → Place → Partition → ℕ
end_of columns place partition = place.at + length (partition_bytes columns.static_value partition)

-- what the walk meets at its head: behind that all its blocks but the first are still to begin
abbrev pub OpensPartition : Columns → List ℕ → Place → Place → Partition → Result (Option Bool) Refusal → Type 0
OpensPartition columns file place inside partition (Ok None) = ⊥
OpensPartition columns file place inside partition (Ok (Some has_static)) =
    (inside.key ≡ partition.key) × (inside.head ≡ place.at)
    × BlocksAhead columns file (end_of columns place partition) inside (blocks_of columns.static_value partition)
OpensPartition columns file place inside partition (Err e) = IsFault e

-- what is told of it, and the place behind it
pub record IsSumOf (columns : Columns) (place place' : Place) (partition : Partition) (sum : PartitionSum)
    : Type 0 where
  pub position : sum.position ≡ place.at
  pub blocks : sum.blocks ≡ length (blocks_of columns.static_value partition) + 1
  pub rows : sum.rows ≡ length partition.rows
  pub key : place'.key ≡ partition.key
  pub at : place'.at ≡ end_of columns place partition

-- what the walk over it finds; the store may fail and memory run out
abbrev pub FindsAhead : Columns → Place → Place → Partition → Result (Option PartitionSum) Refusal → Type 0
FindsAhead columns place place' partition (Ok None) = ⊥
FindsAhead columns place place' partition (Ok (Some sum)) = IsSumOf columns place place' partition sum
FindsAhead columns place place' partition (Err e) = IsFault e

-- what it finds at the end of the file
abbrev pub FindsEnd : Result (Option PartitionSum) Refusal → Type 0
FindsEnd (Ok None) = Unit {0}
FindsEnd (Ok (Some sum)) = ⊥
FindsEnd (Err e) = IsFault e

-- ---- all partitions

-- From a place between partitions to the end of the file these partitions of the table stand, each above the one before
-- it and the first above the key that the walk has; each has a static value or a row, and its rows ascend.
pub record PartitionsAhead (columns : Columns) (file : List ℕ) (place : Place) (partitions : List Partition)
    : Type 0 where
  pub are : ArePartitions columns partitions
  pub above : StringsAscend (place.key ∷ map (λ partition. partition.key) partitions)
  pub ascend : RowsAscend partitions
  pub stands : drop place.at file ≡ data_bytes columns.static_value partitions

-- how a step of the walk ends there: it finds the first of them, or the end of the file where there is none; the store
-- may fail and memory run out
abbrev pub StepsOver : Columns → List ℕ → Place → Place → Result (Option PartitionSum) Refusal → List Partition → Type 0
StepsOver columns file place place' (Ok None) [] = Unit {0}
StepsOver columns file place place' (Ok None) (partition ∷ partitions) = ⊥
StepsOver columns file place place' (Ok (Some sum)) [] = ⊥
StepsOver columns file place place' (Ok (Some sum)) (partition ∷ partitions) =
    IsSumOf columns place place' partition sum × PartitionsAhead columns file place' partitions
StepsOver columns file place place' (Err e) partitions = IsFault e

-- ---- the laws

-- behind the head of a partition that stands ahead, its blocks are still to begin,
abbrev pub HeadsOpen : Type 0
HeadsOpen = (columns : Columns) (file : List ℕ) (place inside : Place) (partition : Partition)
    (result : Result (Option Bool) Refusal) → PartitionAhead columns file place partition
    → Enters columns file place inside result
    → OpensPartition columns file place inside partition result

-- and the walk meets them one after the other, and then the partition's end
abbrev pub BlocksAreMet : Type 0
BlocksAreMet = (columns : Columns) (file : List ℕ) (behind : ℕ) (place place' : Place) (blocks : List Block)
    (result : Result (Option ℕ) Refusal) → BlocksAhead columns file behind place blocks
    → FindsBlock columns file place place' result → MeetsBlock columns file behind place' result blocks

-- the walk finds the partition that stands ahead,
abbrev pub AheadIsFound : Type 0
AheadIsFound = (columns : Columns) (file : List ℕ) (place place' : Place) (partition : Partition)
    (result : Result (Option PartitionSum) Refusal) → PartitionAhead columns file place partition
    → FindsPartition columns file place place' result → FindsAhead columns place place' partition result

-- and the end of the file, where nothing stands ahead
abbrev pub EndIsFound : Type 0
EndIsFound = (columns : Columns) (file : List ℕ) (place place' : Place) (result : Result (Option PartitionSum) Refusal)
    → drop place.at file ≡ [] → FindsPartition columns file place place' result → FindsEnd result

-- the partitions that a whole file lists stand ahead of a walk at its start,
abbrev pub ListedAreAhead : Type 0
ListedAreAhead = (columns : Columns) (file : List ℕ) (partitions : List Partition) → Lists columns file partitions
    → StringsAscend (map (λ partition. partition.key) partitions) → RowsAscend partitions
    → PartitionsAhead columns file (place_at 0) partitions

-- and the walk finds partitions ahead one after the other, and then the end of the file
abbrev pub AllAreFound : Type 0
AllAreFound = (columns : Columns) (file : List ℕ) (place place' : Place) (partitions : List Partition)
    (result : Result (Option PartitionSum) Refusal) → PartitionsAhead columns file place partitions
    → FindsPartition columns file place place' result → StepsOver columns file place place' result partitions
