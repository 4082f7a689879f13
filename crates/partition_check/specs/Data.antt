-- What a check finds in Data.db from its start to its end, or why it stops. This project's own.
use Rattle.std.specs.Prelude.{ℕ, ◌+◌, List, [], ◌∷◌, None, Some, Result, Ok, Err}
use Rattle.key_types.specs.Columns.{Columns}
use Rattle.key_types.specs.Table.{Entry}
use Rattle.data_file.specs.Listing.{Partition}
use Rattle.table_files.specs.Standing.{Holds}
use Rattle.data_walk.specs.declared.data_walk.PartitionSum.{PartitionSum}
use Rattle.data_walk.specs.declared.refusal.Refusal.{Refusal}
use Rattle.data_walk.specs.DataWalk.{FindsPartition, Place, place_at}
use Rattle.data_walk.specs.Refusals.{IsFault}
use Rattle.partition_check.specs.declared.data.Found.{Found}
use Rattle.partition_check.specs.Found.{ListsTable}

-- the first string, where a partition of this string is passed: a string that is kept has a byte
abbrev pub first_with : List ℕ → List ℕ → List ℕ
first_with [] key = key
first_with (b ∷ first) key = b ∷ first

-- what was found, where no partition was passed
abbrev pub nothing_found : Found
nothing_found = record { first = []; last = []; counts = record { partitions = 0; rows = 0 } }

-- what was found and one more partition, of this string
abbrev pub found_with : Found → List ℕ → PartitionSum → Found
found_with found key sum = record {
  first = first_with found.first key;
  last = key;
  counts = record { partitions = found.counts.partitions + 1; rows = found.counts.rows + sum.rows };
}

module _ (columns : Columns) (file : List ℕ) where
  -- From a place between partitions on, where so much was found, the walk goes over the partitions to the end of the
  -- file, or stops at the first place that is not sound. The store may fail and memory run out.
  pub data FindsOn : Found → Place → Result Found Refusal → Type 0 where
    partition : (found : Found) (place next : Place) (sum : PartitionSum) (result : Result Found Refusal)
        → FindsPartition columns file place next (Ok (Some sum)) → FindsOn (found_with found next.key sum) next result
        → FindsOn found place result
    ends : (found : Found) (place next : Place) → FindsPartition columns file place next (Ok None)
        → FindsOn found place (Ok found)
    stops : (found : Found) (place next : Place) (e : Refusal) → FindsPartition columns file place next (Err e)
        → FindsOn found place (Err e)
    fault : (found : Found) (place : Place) (e : Refusal) → IsFault e → FindsOn found place (Err e)

  -- the same of the whole file
  abbrev pub FindsData : Result Found Refusal → Type 0
  FindsData result = FindsOn nothing_found (place_at 0) result

-- ---- the laws

-- what is found at the end is what the file lists,
abbrev pub FoundIsListed : Type 0
FoundIsListed = (columns : Columns) (file : List ℕ) (found : Found) → FindsData columns file (Ok found)
    → (partitions : List Partition) × ListsTable columns file partitions found

-- and where the file holds the entries of a table, only a fault stops the walk
abbrev pub HeldIsFound : Type 0
HeldIsFound = (columns : Columns) (file : List ℕ) (entries : List Entry) (e : Refusal) → Holds columns file entries
    → FindsData columns file (Err e) → IsFault e
