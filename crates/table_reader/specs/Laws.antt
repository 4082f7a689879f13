-- What a get finds in whole files, and the order of entries to bounds. This project's own.
use Rattle.std.specs.Prelude.{◌≡◌, ℕ, List, ◌++◌, Option, None, Some, Ok, IfSome}
use Rattle.std.specs.FinMap as finite
use Rattle.key_types.specs.Columns.{Columns}
use Rattle.key_types.specs.Table.{Table, string_cmp}
use Rattle.key_decode.specs.Strings.{IsStringOf}
use Rattle.outside.specs.Files.{Files, bytes_of}
use Rattle.index_files.specs.declared.footer.FooterNumbers.{FooterNumbers}
use Rattle.table_files.specs.Names.{partitions_id}
use Rattle.table_files.specs.Standing.{StandFor}
use Rattle.table_reader.specs.Gets.{Found, Gets, bytes_in}
use Rattle.table_reader.specs.Opened.{HasFooter}
use Rattle.table_reader.specs.Reads.{IsAlwaysBounded, IsBounded}
use Rattle.table_reader.specs.declared.seek.BoundString.{BoundString}
use Rattle.table_reader.specs.declared.walker.EntryStrings.{EntryStrings}
use Rattle.table_reader.specs.Ranges.{IsEntryOf, entry_of, order_to, within_bytes}

-- the string of a key: that of its partition, and behind it that of its row; a static value's has the partition's alone
abbrev pub string_of_key : List ℕ → Option (List ℕ) → List ℕ
string_of_key key None = key
string_of_key key (Some row) = key ++ row

-- over files that stand for a map a get finds what the map has at the key, and no damage
abbrev pub GetsAreOfMap : Type 0
GetsAreOfMap =
    (files : Files) (generation : ℕ) (columns : Columns) (table : Table) (footer : FooterNumbers) (key : List ℕ)
    (wanted : Option (List ℕ)) (found : Found)
    → StandFor files generation columns table → HasFooter columns (bytes_of files (partitions_id generation)) footer
    → IsStringOf columns.partition key → IfSome wanted (IsStringOf columns.clustering)
    → Gets (bytes_in columns files generation) footer key wanted found
    → found ≡ Ok (finite.get table (string_of_key key wanted))

-- over files that stand for a map the partition index has its footer
abbrev pub FootersStand : Type 0
FootersStand =
    (files : Files) (generation : ℕ) (columns : Columns) (table : Table) → StandFor files generation columns table
    → (footer : FooterNumbers) × HasFooter columns (bytes_of files (partitions_id generation)) footer

-- the string of a bound: that of its partition before that within it
abbrev pub bound_bytes : BoundString → List ℕ
bound_bytes bound = bound.partition ++ within_bytes bound.clustering

-- an entry's order to a bound, by their parts, is the order of the string of its key to the bound's string
abbrev pub OrderIsOfStrings : Type 0
OrderIsOfStrings =
    (columns : Columns) (bound : BoundString) (entry : EntryStrings) → IsStringOf columns.partition bound.partition → IsEntryOf columns entry
    → order_to bound entry.partition (within_bytes entry.clustering) ≡ string_cmp (entry_of entry).0 (bound_bytes bound)

-- over files that stand for a map no search of a get comes to damage: whatever it answers, its reads are within its
-- bound
abbrev pub GetsAreBounded : Type 0
GetsAreBounded =
    (files : Files) (generation : ℕ) (columns : Columns) (table : Table) (footer : FooterNumbers) (key : List ℕ)
    (wanted : Option (List ℕ)) (old new : ℕ)
    → StandFor files generation columns table → HasFooter columns (bytes_of files (partitions_id generation)) footer
    → IsAlwaysBounded (bytes_in columns files generation) footer key wanted old new
    → IsBounded (bytes_in columns files generation) footer key wanted old new
