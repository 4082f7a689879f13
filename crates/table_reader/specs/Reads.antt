-- How a step of a get ends, and how often a get reads the store.
use Rattle.std.specs.Prelude.{◌≡◌, ℕ, ◌+◌, ◌≤◌, ℤ, List, length, Option, None, Some, Result, Ok, Err}
use Rattle.bti_nodes.specs.declared.damage.Damage.{Damage}
use Rattle.bti_reader.specs.Searches.{Answer, floor_in}
use Rattle.data_file.specs.declared.reading.DataError.{DataError}
use Rattle.data_file.specs.declared.reading.DataError.TheVariants as data_error
use Rattle.index_files.specs.declared.footer.FooterNumbers.{FooterNumbers}
use Rattle.index_files.specs.Reading.{partition_place}
use Rattle.table_reader.specs.declared.fault.TableFault.{TableFault}
use Rattle.table_reader.specs.declared.fault.TableFault.TheVariants as table_fault
use Rattle.table_reader.specs.declared.place.PartitionAt.{PartitionAt}
use Rattle.table_reader.specs.Gets.{LeadsTo, TableBytes, number_in}

-- a step ends as it should; a store may fail and memory run out
abbrev pub Ends : {A : Type 0} → (Result A Damage → Type 0) → Result A DataError → Type 0
Ends Finds (Ok x) = Finds (Ok x)
Ends Finds (Err (data_error.Damaged damage)) = Finds (Err damage)
Ends Finds (Err data_error.StoreFault) = Unit {0}
Ends Finds (Err data_error.NoMemory) = Unit {0}

-- the same of a call of an open table
abbrev pub EndsCall : {A : Type 0} → (Result A Damage → Type 0) → Result A TableFault → Type 0
EndsCall Finds (Ok x) = Finds (Ok x)
EndsCall Finds (Err (table_fault.Damaged damage)) = Finds (Err damage)
EndsCall Finds (Err table_fault.Unfinished) = ⊥
EndsCall Finds (Err table_fault.StoreFault) = Unit {0}
EndsCall Finds (Err table_fault.NoMemory) = Unit {0}

-- how many bytes the path has that a search finds, 0 for none
abbrev pub path_length : Answer → ℕ
path_length (Err wrong) = 0
path_length (Ok None) = 0
path_length (Ok (Some path)) = length path.path

-- how many bytes the separator has of the block that a row index has for a key, 0 for none
abbrev pub separator_length : List ℕ → Option ℕ → List ℕ → ℕ
separator_length file None key = 0
separator_length file (Some root) key = path_length (floor_in file root key)

-- The row is looked for in a block whose separator has at most so many bytes, where a number leads to a partition; a
-- static value is looked for in none.
abbrev pub IsWithinThere : TableBytes → ℤ → Option (List ℕ) → ℕ → Type 0
IsWithinThere t number None most = Unit {0}
IsWithinThere t number (Some row) most =
    (there : PartitionAt) → LeadsTo t (partition_place number) (Ok there)
    → separator_length t.rows there.root row ≤ most

-- the same of a get, by the number that the partition index has
abbrev pub HasSeparatorWithin : TableBytes → FooterNumbers → List ℕ → Option (List ℕ) → ℕ → Type 0
HasSeparatorWithin t footer key wanted most =
    (number : ℤ) → number_in t.partitions footer key ≡ Ok (Some number) → IsWithinThere t number wanted most

-- how many bytes a key's clustering has
abbrev pub clustering_length : Option (List ℕ) → ℕ
clustering_length None = 0
clustering_length (Some key) = length key

-- how many bytes the clustering and the separator of its block have together
abbrev pub block_length : List ℕ → Option ℕ → Option (List ℕ) → ℕ
block_length rows root None = 0
block_length rows root (Some key) = length key + separator_length rows root key

-- A get reads the store as often at most as its two strings and the separator of its block have bytes, and 64 times
-- more.
abbrev pub IsBounded : TableBytes → FooterNumbers → List ℕ → Option (List ℕ) → ℕ → ℕ → Type 0
IsBounded t footer key wanted old new =
    (most : ℕ) → HasSeparatorWithin t footer key wanted most
    → new ≤ old + length key + clustering_length wanted + most + 64

-- ---- the same, whatever a call answers

-- a search comes to no damage, and the path that it is to answer has at most so many bytes
abbrev pub IsPathWithin : Answer → ℕ → Type 0
IsPathWithin (Err wrong) most = ⊥
IsPathWithin (Ok None) most = Unit {0}
IsPathWithin (Ok (Some path)) most = length path.path ≤ most

-- the separator of the block that a row index has for a key has at most so many bytes, and no damage is met
abbrev pub IsSeparatorWithin : List ℕ → Option ℕ → List ℕ → ℕ → Type 0
IsSeparatorWithin file None key most = Unit {0}
IsSeparatorWithin file (Some root) key most = IsPathWithin (floor_in file root key) most

-- the same of what is wanted of a partition; a static value is looked for in no block
abbrev pub IsWantedWithin : List ℕ → Option ℕ → Option (List ℕ) → ℕ → Type 0
IsWantedWithin file root None most = Unit {0}
IsWantedWithin file root (Some row) most = IsSeparatorWithin file root row most

-- the same where a number leads to a partition, and of a get, by the number that the partition index has
abbrev pub IsSoundThere : TableBytes → ℤ → Option (List ℕ) → ℕ → Type 0
IsSoundThere t number wanted most =
    (there : PartitionAt) → LeadsTo t (partition_place number) (Ok there) → IsWantedWithin t.rows there.root wanted most

abbrev pub IsSoundWithin : TableBytes → FooterNumbers → List ℕ → Option (List ℕ) → ℕ → Type 0
IsSoundWithin t footer key wanted most =
    (number : ℤ) → number_in t.partitions footer key ≡ Ok (Some number) → IsSoundThere t number wanted most

-- Whatever a get answers, it reads the store as often at most as its two strings and the separator of its block have
-- bytes, and 64 times more, where the row index names the block without damage.
abbrev pub IsAlwaysBounded : TableBytes → FooterNumbers → List ℕ → Option (List ℕ) → ℕ → ℕ → Type 0
IsAlwaysBounded t footer key wanted old new =
    (most : ℕ) → IsSoundWithin t footer key wanted most
    → new ≤ old + (length key + 64 + clustering_length wanted + most)
