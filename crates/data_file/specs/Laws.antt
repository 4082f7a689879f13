-- What a data file's bytes determine.
use Rattle.std.specs.Prelude.{◌≡◌, ℕ, List}
use Rattle.key_types.specs.Columns.{Columns}
use Rattle.data_file.specs.Listing.{Partition, Lists}

-- bytes list at most one list of partitions
abbrev pub ListingIsUnique : Type 0
ListingIsUnique = (columns : Columns) (bytes : List ℕ) (partitions others : List Partition)
    → Lists columns bytes partitions → Lists columns bytes others → partitions ≡ others
