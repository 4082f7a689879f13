-- What Data.db was found to have. This project's own.
use Rattle.std.specs.Prelude.{◌≡◌, ℕ, ◌+◌, List, [], ◌∷◌, length, map}
use Rattle.key_types.specs.Columns.{Columns}
use Rattle.data_file.specs.Listing.{Lists, Partition}
use Rattle.data_file.specs.declared.writer.Counts.{Counts}
use Rattle.table_files.specs.Standing.{RowsAscend, StringsAscend}
use Rattle.partition_check.specs.declared.data.Found.{Found}

-- the string of the first partition; empty where there is none
abbrev pub first_key : List Partition → List ℕ
first_key [] = []
first_key (partition ∷ partitions) = partition.key

-- that of the last one, which is this string where there is none
abbrev pub last_from : List ℕ → List Partition → List ℕ
last_from key [] = key
last_from key (partition ∷ partitions) = last_from partition.key partitions

abbrev pub last_key : List Partition → List ℕ
last_key partitions = last_from [] partitions

-- how many rows the partitions have together
abbrev pub row_count : List Partition → ℕ
row_count [] = 0
row_count (partition ∷ partitions) = length partition.rows + row_count partitions

abbrev pub counts_of : List Partition → Counts
counts_of partitions = record { partitions = length partitions; rows = row_count partitions }

-- The bytes of Data.db list these partitions, which ascend, each with a static value or a row and its rows ascending,
-- and this is what was found of them.
pub record ListsTable (columns : Columns) (bytes : List ℕ) (partitions : List Partition) (found : Found) : Type 0 where
  pub listed : Lists columns bytes partitions
  pub ascend : StringsAscend (map (λ partition. partition.key) partitions)
  pub rows : RowsAscend partitions
  pub first : found.first ≡ first_key partitions
  pub last : found.last ≡ last_key partitions
  pub counts : found.counts ≡ counts_of partitions
