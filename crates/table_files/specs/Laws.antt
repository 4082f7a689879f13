-- What the files determine.
use Rattle.std.specs.Prelude.{◌≡◌, ℕ, List, None}
use Rattle.data_file.specs.Listing.{Partition}
use Rattle.key_types.specs.Columns.{Columns}
use Rattle.key_types.specs.Table.{Entry, Table}
use Rattle.outside.specs.Files.{Files}
use Rattle.table_files.specs.IndexMeaning.{IndexFilesStand}
use Rattle.table_files.specs.Indexes.{partitions_file, placed, rows_file}
use Rattle.table_files.specs.Standing.{AreOfTable, Holds, StandFor}
use Rattle.table_files.specs.Walk.{Walks}

-- files that stand for two maps, under any columns, stand for one, under one schema's columns
abbrev pub FilesDetermine : Type 0
FilesDetermine = (files : Files) (generation : ℕ) (columns others : Columns) (table other : Table)
    → StandFor files generation columns table → StandFor files generation others other → (columns ≡ others) × (table ≡ other)

-- the walk over bytes that hold entries gives these and ends
abbrev pub StandingFilesWalk : Type 0
StandingFilesWalk = (columns : Columns) (bytes : List ℕ) (entries : List Entry) → Holds columns bytes entries → Walks columns None 0 bytes entries None

-- the index files of a table's partitions index them
abbrev pub IndexesStand : Type 0
IndexesStand =
    (columns : Columns) (partitions : List Partition) → AreOfTable columns partitions
    → IndexFilesStand (partitions_file columns.static_value partitions) (rows_file columns.static_value partitions)
    (placed columns.static_value partitions)
