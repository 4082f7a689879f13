-- How many reads of the store a search for a scan's beginning makes at most. This project's own.
use Rattle.std.specs.Prelude.{◌≡◌, ◌⊎◌, ℕ, ◌+◌, ◌*◌, ◌≤◌, ℤ, List, length, drop, Option, None, Some, Ok}
use Rattle.bti_reader.specs.Searches.{ceiling_in, exact_in}
use Rattle.data_file.specs.Reading.{BeginsHead}
use Rattle.index_files.specs.declared.footer.FooterNumbers.{FooterNumbers}
use Rattle.index_files.specs.Reading.{partition_place}
use Rattle.table_reader.specs.declared.place.PartitionAt.{PartitionAt}
use Rattle.table_reader.specs.declared.seek.BoundString.{BoundString}
use Rattle.table_reader.specs.Gets.{LeadsTo, TableBytes, number_of}
use Rattle.table_reader.specs.Reads.{IsPathWithin, IsWantedWithin, clustering_length, path_length, separator_length}

-- how many bytes the separator has of the block in which the rows begin that aren't below a bound's clustering components: 0
-- for the first block, and where it names none
abbrev pub block_len : List ℕ → Option (List ℕ) → Option ℕ → ℕ
block_len rows_db None root = 0
block_len rows_db (Some clustering) root = separator_length rows_db root clustering

module _ (table : TableBytes) (root : ℕ) (bound : BoundString) where
  -- The search begins in a block whose separator has so many bytes: the number leads to the bound's own partition. It is
  -- 0 for a partition's first block, or for none.
  abbrev pub HasSeparator : Option ℤ → ℕ → Type 0
  HasSeparator None size = size ≡ 0
  HasSeparator (Some number) size = (size ≡ 0) ⊎ ((place : PartitionAt) × LeadsTo table (partition_place number) (Ok place)
      × BeginsHead table.columns (drop place.head table.entries) bound.partition
      × (size ≡ block_len table.rows bound.clustering place.root))

  -- The reads after a search along the bound's partition that found this number or none.
  abbrev pub WithinFrom : Option ℤ → ℕ → ℕ → Type 0
  WithinFrom number before after = (size : ℕ) × HasSeparator number size
      × (after ≤ before + (path_length (ceiling_in table.partitions root bound.partition) + clustering_length bound.clustering + size))

  -- The reads before and after a search for the bound: at most twice as many as its partition has bytes, as many as its
  -- clustering and the path of the next partition have, and as the block's separator has, and 192.
  abbrev pub WithinSeek : ℕ → ℕ → Type 0
  WithinSeek before after = (number : Option ℤ)
      × (Ok number ≡ number_of (exact_in table.partitions root bound.partition))
      × WithinFrom number (before + (2 * length bound.partition + 192)) after

  -- ---- whatever the search answers

  -- where a number leads to the bound's own partition, the separator of the block has at most so many bytes, and no
  -- damage is met in the row index
  abbrev pub IsBlockSound : Option ℤ → ℕ → Type 0
  IsBlockSound None most = Unit {0}
  IsBlockSound (Some number) most = (place : PartitionAt) → LeadsTo table (partition_place number) (Ok place)
      → BeginsHead table.columns (drop place.head table.entries) bound.partition
      → IsWantedWithin table.rows place.root bound.clustering most

  -- the same of the number that is found along the bound's partition
  abbrev pub IsSeekSound : ℕ → Type 0
  IsSeekSound most = (number : Option ℤ) → Ok number ≡ number_of (exact_in table.partitions root bound.partition)
      → IsBlockSound number most

  -- The reads after a search along the bound's partition that found this number or none, and so many steps more.
  abbrev pub AlwaysWithinFrom : Option ℤ → ℕ → ℕ → Type 0
  AlwaysWithinFrom number before after = (next most : ℕ)
      → IsPathWithin (ceiling_in table.partitions root bound.partition) next
      → IsBlockSound number most → after ≤ before + (next + clustering_length bound.clustering + most)

  -- The reads before and after a search for the bound: at most twice as many as its partition has bytes, as many as its
  -- clustering, the path of the next partition and the block's separator have, and 192, where the searches meet no
  -- damage.
  abbrev pub AlwaysWithinSeek : ℕ → ℕ → Type 0
  AlwaysWithinSeek before after = (next most : ℕ)
      → IsPathWithin (ceiling_in table.partitions root bound.partition) next
      → IsSeekSound most
      → after ≤ before + (2 * length bound.partition + 192 + next + clustering_length bound.clustering + most)

-- The same of a scan's beginning; without a bound nothing is read.
abbrev pub WithinScan : TableBytes → FooterNumbers → Option BoundString → ℕ → ℕ → Type 0
WithinScan table footer None before after = after ≤ before
WithinScan table footer (Some bound) before after = (after ≤ before) ⊎ WithinSeek table footer.root bound before after

-- the same whatever the scan's beginning answers
abbrev pub AlwaysWithinScan : TableBytes → FooterNumbers → Option BoundString → ℕ → ℕ → Type 0
AlwaysWithinScan table footer None before after = after ≤ before
AlwaysWithinScan table footer (Some bound) before after = AlwaysWithinSeek table footer.root bound before after
