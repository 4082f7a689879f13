-- The payloads of the partition index, beside the partitions of Data.db. This project's own.
use Rattle.std.specs.Prelude.{◌≡◌, ◌≢◌, ℕ, ℤ, pos, negsuc, List, [], ◌∷◌, ◌++◌, map, take, Bool, true, false, if◌then◌else◌, nat_lt, Option, Some, None, Result, Ok, Err, ⊤}
use Rattle.outside.specs.declared.store.Part.TheVariants.{Partitions}
use Rattle.key_types.specs.Columns.{Columns}
use Rattle.byte_order.specs.Strings.{IsUniqueLength, unique_size}
use Rattle.bti_nodes.specs.Payloads.{signed_number}
use Rattle.bti_nodes.specs.Trie.{Path, paths}
use Rattle.bti_reader.specs.Steps.{payload_number}
use Rattle.bti_reader.specs.Walks.{next_in}
use Rattle.data_file.specs.Listing.{Partition}
use Rattle.row_index.specs.Entries.{Block, BlockList}
use Rattle.table_files.specs.Indexes.{placed}
use Rattle.data_walk.specs.declared.data_walk.PartitionSum.{PartitionSum}
use Rattle.data_walk.specs.declared.refusal.Refusal.{Refusal}
use Rattle.data_walk.specs.declared.clash.Clash.TheVariants as clash
use Rattle.data_walk.specs.DataWalk.{FindsPartition, Place, place_at}
use Rattle.data_walk.specs.Refusals.{IsFault, clash_at}
use Rattle.partition_check.specs.declared.data.Found.{Found}
use Rattle.partition_check.specs.Found.{ListsTable}
use Rattle.path_check.specs.Paths.{EndsPaths, LacksPath, number_clash}

-- ---- what the payloads should be

-- the number of a partition of one block is the complement of its position; that of another is some position
abbrev pub IsNumberOf : BlockList → List Block → ℤ → Type 0
IsNumberOf partition [] number = number ≡ negsuc partition.data_at
IsNumberOf partition (block ∷ blocks) number = (at : ℕ) × (number ≡ pos at)

-- a path is that of a partition: the shortest prefix of its string that none of the others begins with; and its payload
-- spells a number that the partition may have
pub record IsPartitionPath (partition : BlockList) (others : List (List ℕ)) (found : Path) : Type 0 where
  pub size : ℕ
  pub unique : IsUniqueLength partition.string others size
  pub path : found.path ≡ take size partition.string
  pub number : IsNumberOf partition partition.blocks (signed_number found.payload)

-- one path for each partition, in order, where some strings stand before the partitions
abbrev pub ArePartitionPaths : List (List ℕ) → List BlockList → List Path → Type 0
ArePartitionPaths before [] [] = Unit {0}
ArePartitionPaths before [] (found ∷ more) = ⊥
ArePartitionPaths before (partition ∷ partitions) [] = ⊥
ArePartitionPaths before (partition ∷ partitions) (found ∷ more) =
    IsPartitionPath partition (before ++ map (λ other. other.string) partitions) found
    × ArePartitionPaths (before ++ partition.string ∷ []) partitions more

-- the trie at a root of the file has these paths, and they are those of the partitions
pub record IndexIs (file : List ℕ) (root : ℕ) (partitions : List BlockList) : Type 0 where
  pub found : List Path
  pub means : paths file root ≡ Ok found
  pub are : ArePartitionPaths [] partitions found

-- ---- one payload

-- a string beside a partition, where there is one: that of a partition has a byte
abbrev pub beside : List ℕ → Option (List ℕ)
beside [] = None
beside (b ∷ string) = Some (b ∷ string)

-- the string of the partition that was passed, where one was
abbrev pub key_behind : Option PartitionSum → List ℕ → List ℕ
key_behind None key = []
key_behind (Some sum) key = key

-- the shortest prefix of a partition's string that neither neighbour has, where an empty string is no neighbour
abbrev pub unique_path : List ℕ → List ℕ → List ℕ → List ℕ
unique_path before key next = take (unique_size (beside before) key (beside next)) key

-- whether a partition has more blocks than one
abbrev pub has_blocks : PartitionSum → Bool
has_blocks sum = nat_lt 1 sum.blocks

-- the number of a partition of one block is the complement of its position; that of another is some position
abbrev pub FitsBy : Bool → ℕ → ℤ → Type 0
FitsBy false position number = number ≡ negsuc position
FitsBy true position number = (at : ℕ) × (number ≡ pos at)

abbrev pub FitsNumber : PartitionSum → ℤ → Type 0
FitsNumber sum number = FitsBy (has_blocks sum) sum.position number

-- the number that is told as wanted where another stands there
abbrev pub wanted_number : PartitionSum → ℤ
wanted_number sum = if has_blocks sum then pos 0 else negsuc sum.position

-- A path of the index with its node and its number, beside the path of a partition and what the walk told of it.
pub data ComparesPath (path : List ℕ) (node : ℕ) (number : ℤ) (wanted : List ℕ) (sum : PartitionSum)
    : Result ⊤ Refusal → Type 0 where
  same : path ≡ wanted → FitsNumber sum number → ComparesPath path node number wanted sum (Ok tt)
  other_path : path ≢ wanted → ComparesPath path node number wanted sum (Err (clash_at Partitions node clash.Path))
  other_number : path ≡ wanted → (FitsNumber sum number → ⊥)
      → ComparesPath path node number wanted sum (Err (number_clash Partitions node number (wanted_number sum)))

-- The next path of the index beside that of a partition, and the last path that was given then.
pub data ChecksPath (index : List ℕ) (root : ℕ) (last : Option (List ℕ)) (wanted : List ℕ) (sum : PartitionSum)
    : Option (List ℕ) → Result ⊤ Refusal → Type 0 where
  -- a path is there
  given : (found : Path) (result : Result ⊤ Refusal) → next_in index root last ≡ Ok (Some found)
      → ComparesPath found.path found.node (payload_number Partitions found.payload) wanted sum result
      → ChecksPath index root last wanted sum (Some found.path) result
  -- none is had
  lacks : (after : Option (List ℕ)) (e : Refusal) → LacksPath Partitions index root last e
      → ChecksPath index root last wanted sum after (Err e)

-- ---- all of them

module _ (columns : Columns) (entries index : List ℕ) (root : ℕ) where
  -- From a place behind a partition on, which has this string before it, or none, and of which this was told, that
  -- partition and all that follow have their paths in the trie at the root, the last path being this, and there are no
  -- others; or what is refused first. Memory may run out.
  pub data ComparesPartitions : List ℕ → Option PartitionSum → Place → Option (List ℕ) → Result ⊤ Refusal → Type 0 where
    -- the partition has its path
    partition : (before : List ℕ) (here : PartitionSum) (behind : Option PartitionSum) (place next : Place)
        (last given : Option (List ℕ)) (result : Result ⊤ Refusal)
        → FindsPartition columns entries place next (Ok behind)
        → ChecksPath index root last (unique_path before place.key (key_behind behind next.key)) here given (Ok tt)
        → ComparesPartitions place.key behind next given result
        → ComparesPartitions before (Some here) place last result
    -- or hasn't
    clashes : (before : List ℕ) (here : PartitionSum) (behind : Option PartitionSum) (place next : Place)
        (last given : Option (List ℕ)) (e : Refusal) → FindsPartition columns entries place next (Ok behind)
        → ChecksPath index root last (unique_path before place.key (key_behind behind next.key)) here given (Err e)
        → ComparesPartitions before (Some here) place last (Err e)
    -- the walk over Data.db stops at the one behind it
    stops : (before : List ℕ) (here : PartitionSum) (place next : Place) (last : Option (List ℕ)) (e : Refusal)
        → FindsPartition columns entries place next (Err e) → ComparesPartitions before (Some here) place last (Err e)
    -- there is no partition more
    ends : (before : List ℕ) (place : Place) (last : Option (List ℕ)) (result : Result ⊤ Refusal)
        → EndsPaths Partitions index root last result → ComparesPartitions before None place last result
    fault : (before : List ℕ) (here : Option PartitionSum) (place : Place) (last : Option (List ℕ)) (e : Refusal)
        → IsFault e → ComparesPartitions before here place last (Err e)

  -- The partitions of Data.db beside the paths of the trie at the root.
  pub data ChecksPartitions : Result ⊤ Refusal → Type 0 where
    whole : (place : Place) (first : Option PartitionSum) (result : Result ⊤ Refusal)
        → FindsPartition columns entries (place_at 0) place (Ok first) → ComparesPartitions [] first place None result
        → ChecksPartitions result
    stops : (place : Place) (e : Refusal) → FindsPartition columns entries (place_at 0) place (Err e)
        → ChecksPartitions (Err e)
    fault : (e : Refusal) → IsFault e → ChecksPartitions (Err e)

-- ---- the laws

-- where nothing is refused, the index is that of the partitions,
abbrev pub CheckedIsIndex : Type 0
CheckedIsIndex = (columns : Columns) (entries index : List ℕ) (root : ℕ) (partitions : List Partition) (found : Found)
    → ListsTable columns entries partitions found → ChecksPartitions columns entries index root (Ok tt)
    → IndexIs index root (placed columns.static_value partitions)

-- and where it is, nothing but a fault stops the check
abbrev pub IndexIsChecked : Type 0
IndexIsChecked = (columns : Columns) (entries index : List ℕ) (root : ℕ) (partitions : List Partition) (found : Found)
    (e : Refusal) → ListsTable columns entries partitions found
    → IndexIs index root (placed columns.static_value partitions)
    → ChecksPartitions columns entries index root (Err e) → IsFault e
