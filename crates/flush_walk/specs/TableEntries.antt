-- The entries of a table, taken apart by their partitions.
use Rattle.std.specs.Prelude.{◌≡◌, List, [], ◌∷◌, ◌++◌}
use Rattle.key_types.specs.Columns.{Columns}
use Rattle.key_types.specs.Table.{Entry}
use Rattle.key_decode.specs.Strings.{IsStringOf}
use Rattle.flush_walk.specs.Given.{Given, IsBehindKey, entry_given}
use Rattle.flush_walk.specs.Entries.{clustering_in, partition_in}

-- an entry of a table: its key's string is that of a partition, and behind it that of a row or nothing
pub record IsTableEntry (columns : Columns) (entry : Entry) : Type 0 where
  pub partition : IsStringOf columns.partition (partition_in columns entry.0)
  pub behind : IsBehindKey columns (clustering_in columns entry.0) entry.1
  pub parts : partition_in columns entry.0 ++ clustering_in columns entry.0 ≡ entry.0

abbrev pub AreTableEntries : Columns → List Entry → Type 0
AreTableEntries columns [] = Unit {0}
AreTableEntries columns (entry ∷ entries) = IsTableEntry columns entry × AreTableEntries columns entries

-- as the writer of the files takes it
abbrev pub given_in : Columns → Entry → Given
given_in columns entry = entry_given (partition_in columns entry.0) (clustering_in columns entry.0) entry.1
