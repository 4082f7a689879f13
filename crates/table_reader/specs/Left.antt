-- What a scan over a range has left to give. This project's own.
use Rattle.std.specs.Prelude.{◌≡◌, ℕ, ◌<◌, ◌≤◌, ◌&&◌, Bool, true, false, List, [], ◌∷◌, length, drop, Option, None, Some, Result, Ok, Err, IfSome}
use Rattle.std.specs.List.{AllByRecursion, filter}
use Rattle.std.specs.declared.cmp.Ordering.{Ordering}
use Rattle.std.specs.declared.cmp.Ordering.TheVariants.{Less, Equal, Greater}
use Rattle.key_types.specs.Columns.{Columns}
use Rattle.std.specs.FinMap as map
use Rattle.outside.specs.Files.{Files, bytes_of}
use Rattle.key_types.specs.Table.{Entry, Table, string_cmp}
use Rattle.key_decode.specs.Strings.{IsStringOf}
use Rattle.bti_nodes.specs.declared.damage.Damage.{Damage}
use Rattle.data_file.specs.declared.reading.DataError.{DataError}
use Rattle.data_file.specs.declared.reading.DataError.TheVariants.{StoreFault, Damaged, NoMemory}
use Rattle.index_files.specs.declared.footer.FooterNumbers.{FooterNumbers}
use Rattle.table_files.specs.Names.{data_id, partitions_id}
use Rattle.table_files.specs.Standing.{StandFor}
use Rattle.table_files.specs.Walk.{Walks}
use Rattle.table_reader.specs.declared.fault.TableFault.{TableFault}
use Rattle.table_reader.specs.declared.fault.TableFault.TheVariants as table_fault
use Rattle.table_reader.specs.declared.seek.BoundString.{BoundString}
use Rattle.table_reader.specs.declared.seek.Start.{Start}
use Rattle.table_reader.specs.declared.walker.EntryStrings.{EntryStrings}
use Rattle.table_reader.specs.Gets.{bytes_in}
use Rattle.table_reader.specs.Laws.{bound_bytes}
use Rattle.table_reader.specs.Opened.{HasFooter}
use Rattle.table_reader.specs.Ranges.{Gives, IsOpen, Scanning, entry_of}
use Rattle.table_reader.specs.Scans.{Scans, begun}
use Rattle.table_reader.specs.Seeking.{BeginsScan}

-- ---- the entries of a range

abbrev pub is_not_less : Ordering → Bool
is_not_less Less = false
is_not_less Equal = true
is_not_less Greater = true

abbrev pub is_not_greater : Ordering → Bool
is_not_greater Less = true
is_not_greater Equal = true
is_not_greater Greater = false

-- whether a key isn't below the bound from which a range goes, where there is one
abbrev pub is_from : Option BoundString → List ℕ → Bool
is_from None key = true
is_from (Some bound) key = is_not_less (string_cmp key (bound_bytes bound))

-- whether it isn't above the bound up to which it goes
abbrev pub is_up_to : Option BoundString → List ℕ → Bool
is_up_to None key = true
is_up_to (Some bound) key = is_not_greater (string_cmp key (bound_bytes bound))

abbrev pub is_in_range : Option BoundString → Option BoundString → Entry → Bool
is_in_range from to entry = is_from from entry.0 && is_up_to to entry.0

-- the entries of a range
abbrev pub range_of : Option BoundString → Option BoundString → List Entry → List Entry
range_of from to entries = filter (is_in_range from to) entries

-- each entry's key is below those of all that follow it
abbrev pub EntriesAscend : List Entry → Type 0
EntriesAscend [] = Unit {0}
EntriesAscend (entry ∷ entries) = AllByRecursion (λ (e : Entry). string_cmp entry.0 e.0 ≡ Less) entries × EntriesAscend entries

-- ---- what is left

-- the bound is one of this table: its partition's string is one of a partition
abbrev pub IsBound : Columns → Option BoundString → Type 0
IsBound columns bound = IfSome bound (λ b. IsStringOf columns.partition b.partition)

-- A scan has these entries left: from its place on the walk over Data.db comes to the file's end and gives entries that
-- ascend, of which these are in its range.
pub record HasLeft (columns : Columns) (file : List ℕ) (scan : Scanning) (left : List Entry) : Type 0 where
  pub is_open : IsOpen columns scan.inside
  pub from : IsBound columns scan.from
  pub to : IsBound columns scan.to
  pub entries : List Entry
  pub walk : Walks columns scan.inside scan.window.at (drop scan.window.at file) entries None
  pub ascend : EntriesAscend entries
  pub range : left ≡ range_of scan.from scan.to entries

-- A call gives the first entry that is left, and leaves the others; none where none is left. There is no damage, and
-- after another error all are left.
abbrev pub GivesLeft : Columns → List ℕ → Scanning → List Entry → Result (Option EntryStrings) DataError → Type 0
GivesLeft columns file scan' left (Ok (Some entry)) =
    (rest : List Entry) × (left ≡ entry_of entry ∷ rest) × HasLeft columns file scan' rest
GivesLeft columns file scan' left (Ok None) = (left ≡ []) × HasLeft columns file scan' left
GivesLeft columns file scan' left (Err (Damaged damage)) = ⊥
GivesLeft columns file scan' left (Err StoreFault) = HasLeft columns file scan' left
GivesLeft columns file scan' left (Err NoMemory) = HasLeft columns file scan' left

-- that is so of whatever a scan gives
abbrev pub ScansGiveRange : Type 0
ScansGiveRange =
    (columns : Columns) (file : List ℕ) (scan scan' : Scanning) (left : List Entry) (result : Result (Option EntryStrings) DataError)
    → HasLeft columns file scan left → Gives columns file scan scan' result → GivesLeft columns file scan' left result

-- over files that stand for a map, a scan without a lower bound has all entries of the map left, up to its upper bound
abbrev pub WholeScanHasAll : Type 0
WholeScanHasAll =
    (files : Files) (generation : ℕ) (columns : Columns) (table : Table) (to : Option BoundString)
    → StandFor files generation columns table → IsBound columns to
    → HasLeft columns (bytes_of files (data_id generation))
    (begun (length (bytes_of files (data_id generation))) None to (Some (record { at = 0; partition = None })))
    (range_of None to (map.entries table))

-- where the bound names clustering components, their string has a byte
abbrev pub NamesSome : Option BoundString → Type 0
NamesSome bound = IfSome bound (λ b. IfSome b.clustering (λ string. 0 < length string))

-- the place lies in a file of so many bytes, or at its end
abbrev pub IsPlaceIn : ℕ → Option Start → Type 0
IsPlaceIn limit start = IfSome start (λ s. s.at ≤ limit)

-- over files that stand for a map, the search for the beginning of a range finds no damage, and a scan that begins
-- where it comes to has exactly the map's entries of the range left
abbrev pub RangeScanHasRange : Type 0
RangeScanHasRange =
    (files : Files) (generation : ℕ) (columns : Columns) (table : Table) (footer : FooterNumbers)
    (from to : Option BoundString) (found : Result (Option Start) Damage)
    → StandFor files generation columns table → HasFooter columns (bytes_of files (partitions_id generation)) footer
    → IsBound columns from → NamesSome from → IsBound columns to
    → BeginsScan (bytes_in columns files generation) footer from found
    → (start : Option Start) × (found ≡ Ok start) × IsPlaceIn (length (bytes_of files (data_id generation))) start
    × HasLeft columns (bytes_of files (data_id generation))
    (begun (length (bytes_of files (data_id generation))) from to start) (range_of from to (map.entries table))

-- a scan begins with these entries left, and no damage is told
abbrev pub BeginsWith : Columns → List ℕ → List Entry → Result Scanning TableFault → Type 0
BeginsWith columns file left (Ok scan) = HasLeft columns file scan left
BeginsWith columns file left (Err (table_fault.Damaged damage)) = ⊥
BeginsWith columns file left (Err table_fault.Unfinished) = ⊥
BeginsWith columns file left (Err table_fault.StoreFault) = Unit {0}
BeginsWith columns file left (Err table_fault.NoMemory) = Unit {0}

-- over files that stand for a map, a scan of a range begins with exactly the map's entries of the range left
abbrev pub ScansBeginWithRange : Type 0
ScansBeginWithRange =
    (files : Files) (generation : ℕ) (columns : Columns) (table : Table) (footer : FooterNumbers)
    (from to : Option BoundString) (result : Result Scanning TableFault)
    → StandFor files generation columns table → HasFooter columns (bytes_of files (partitions_id generation)) footer
    → IsBound columns from → NamesSome from → IsBound columns to
    → Scans (bytes_in columns files generation) footer from to result
    → BeginsWith columns (bytes_of files (data_id generation)) (range_of from to (map.entries table)) result
