-- Ranges of entries between the strings of two bounds, and the steps of a scan over a range. This project's own.
use Rattle.std.specs.Prelude.{◌≡◌, ◌⊎◌, ℕ, ◌<◌, ◌≤◌, List, [], ◌∷◌, ◌++◌, drop, map, Option, None, Some, Result, Ok, Err, IfSome, if◌then◌else◌}
use Rattle.std.specs.List.{AllByRecursion}
use Rattle.std.specs.declared.cmp.Ordering.{Ordering}
use Rattle.std.specs.declared.cmp.Ordering.TheVariants.{Less, Greater}
use Rattle.std.specs.Ordering.{ordering_then}
use Rattle.key_types.specs.Columns.{Columns}
use Rattle.key_types.specs.Table.{Entry, string_cmp}
use Rattle.data_file.specs.declared.reading.DataError.{DataError}
use Rattle.data_file.specs.declared.reading.DataError.TheVariants.{StoreFault, Damaged, NoMemory}
use Rattle.key_decode.specs.Strings.{IsStringOf}
use Rattle.data_file.specs.Listing.{FitsStaticType, head_bytes, static_part_bytes}
use Rattle.data_file.specs.Reading.{BeginsRow}
use Rattle.table_files.specs.Walk.{Passes, Stops}
use Rattle.table_reader.specs.declared.seek.BoundString.{BoundString}
use Rattle.table_reader.specs.declared.walker.EntryStrings.{EntryStrings}
use Rattle.table_reader.specs.declared.walker.Met.{Met}
use Rattle.table_reader.specs.declared.walker.Met.TheVariants.{Passed, Given, Done}
use Rattle.table_reader.specs.declared.walker.Walker.{Walker}
use Rattle.table_reader.specs.StepsOver.{IsAny, StepsOver}
use Rattle.table_reader.specs.Window.{Continues, Unread, read_to}

-- ---- entries and bounds

-- a string within a partition, which is empty where there is none
abbrev pub within_bytes : Option (List ℕ) → List ℕ
within_bytes None = []
within_bytes (Some string) = string

-- the entry that the strings make: that of its partition before that within it, and the value
abbrev pub entry_of : EntryStrings → Entry
entry_of entry = (entry.partition ++ within_bytes entry.clustering, entry.value)

abbrev pub entries_of : List EntryStrings → List Entry
entries_of entries = map entry_of entries

-- the order of an entry's strings to those of a bound: by the partition, then within it
abbrev pub order_to : BoundString → List ℕ → List ℕ → Ordering
order_to bound partition within =
    ordering_then (string_cmp partition bound.partition) (string_cmp within (within_bytes bound.clustering))

-- strings below the bound from which a range goes; without a bound there are none
abbrev pub IsBelow : Option BoundString → List ℕ → List ℕ → Type 0
IsBelow None partition within = ⊥
IsBelow (Some bound) partition within = order_to bound partition within ≡ Less

-- strings above the bound up to which it goes; without a bound there are none
abbrev pub IsAbove : Option BoundString → List ℕ → List ℕ → Type 0
IsAbove None partition within = ⊥
IsAbove (Some bound) partition within = order_to bound partition within ≡ Greater

-- the same of an entry
abbrev pub IsEntryBelow : Option BoundString → EntryStrings → Type 0
IsEntryBelow from entry = IsBelow from entry.partition (within_bytes entry.clustering)

abbrev pub IsEntryAbove : Option BoundString → EntryStrings → Type 0
IsEntryAbove to entry = IsAbove to entry.partition (within_bytes entry.clustering)

-- the strings are those of an entry of a table: of a row, or of a static value
pub record IsEntryOf (columns : Columns) (entry : EntryStrings) : Type 0 where
  pub partition : IsStringOf columns.partition entry.partition
  pub clustering : IfSome entry.clustering (IsStringOf columns.clustering)

-- a walk is in no partition, or in one of this string
abbrev pub IsOpen : Columns → Option (List ℕ) → Type 0
IsOpen columns inside = IfSome inside (IsStringOf columns.partition)

-- ---- steps

-- the string of the partition that the walk is in
abbrev pub inside_of : Walker → Option (List ℕ)
inside_of walk = if walk.inside then Some walk.key else None

-- the walk stands where it stood
pub record StandsStill (walk walk' : Walker) : Type 0 where
  pub window : walk'.window ≡ walk.window
  pub inside : inside_of walk' ≡ inside_of walk
  pub from : walk'.from ≡ walk.from
  pub to : walk'.to ≡ walk.to

-- the bytes begin with the head of a partition that has this static value
abbrev pub BeginsStatic : Columns → List ℕ → List ℕ → List ℕ → Type 0
BeginsStatic columns bytes key value = IsStringOf columns.partition key × FitsStaticType columns.static_value (Some value)
    × ((rest : List ℕ) × (bytes ≡ (head_bytes key ++ static_part_bytes columns.static_value (Some value)) ++ rest))

-- the file ends, or the entry that stands next is above the range: that of a static value, or of a row
abbrev pub IsPast : Columns → List ℕ → Option (List ℕ) → ℕ → Option BoundString → Type 0
IsPast columns file None at to = (drop at file ≡ [])
    ⊎ ((key : List ℕ) × (value : List ℕ) × BeginsStatic columns (drop at file) key value × IsAbove to key [])
IsPast columns file (Some key) at to =
    (clustering : List ℕ) × (value : List ℕ) × BeginsRow columns (drop at file) clustering value × IsAbove to key clustering

-- over a table with these columns
module _ (columns : Columns) where
  -- over every file that the window is one of, the walk passes these entries, by one step over what stands there, and the
  -- window is of the file still; nothing more is read. Something is so of the entry's strings.
  abbrev pub Moves : (List ℕ → List ℕ → Type 0) → Walker → Walker → List Entry → Type 0
  Moves Is walk walk' entries = (walk.window.at < walk'.window.at) × (walk'.window.at ≤ walk'.window.limit)
      × (walk'.window.limit ≡ walk.window.limit)
      × ((file : List ℕ) → Continues file walk.window → Continues file walk'.window
      × Passes columns file (inside_of walk) walk.window.at entries (inside_of walk') walk'.window.at
      × StepsOver columns Is file (inside_of walk) walk.window.at (inside_of walk') walk'.window.at)
      × (read_to walk'.window ≡ read_to walk.window) × (walk'.window.whole ≡ walk.window.whole)

  -- A step passes over what gives no entry or one below the range; or it gives an entry that is neither below nor above
  -- it, after which nothing counts as below; or the walk is at the range's end; or nothing sound stands there.
  abbrev pub StepIs : Walker → Walker → Result Met DataError → Type 0
  StepIs walk walk' (Ok Passed) = (passed : List EntryStrings) × AllByRecursion (IsEntryBelow walk.from) passed
      × Moves (IsBelow walk.from) walk walk' (entries_of passed) × (walk'.from ≡ walk.from) × (walk'.to ≡ walk.to)
      × (IsOpen columns (inside_of walk) → IsOpen columns (inside_of walk') × AllByRecursion (IsEntryOf columns) passed)
  StepIs walk walk' (Ok (Given entry)) = (IsEntryBelow walk.from entry → ⊥) × (IsEntryAbove walk.to entry → ⊥)
      × Moves IsAny walk walk' (entry_of entry ∷ []) × (walk'.from ≡ None) × (walk'.to ≡ walk.to)
      × (inside_of walk' ≡ Some entry.partition) × (IsOpen columns (inside_of walk) → IsEntryOf columns entry)
  StepIs walk walk' (Ok Done) = StandsStill walk walk'
      × ((file : List ℕ) → Continues file walk.window → IsPast columns file (inside_of walk) walk.window.at walk.to)
  StepIs walk walk' (Err (Damaged damage)) = StandsStill walk walk'
      × ((file : List ℕ) → Continues file walk.window → Stops columns file (inside_of walk) walk.window.at [] (Some damage))
  StepIs walk walk' (Err StoreFault) = ⊥
  StepIs walk walk' (Err NoMemory) = StandsStill walk walk'

-- ---- what a scan gives

-- Where a scan stands, as contracts see it: the window over Data.db, the string of the partition that it is in, and the
-- bounds of its range; `from` counts until an entry is given.
pub record Scanning : Type 0 where
  pub window : Unread
  pub inside : Option (List ℕ)
  pub from : Option BoundString
  pub to : Option BoundString

-- the place of a walk
abbrev pub scanning_of : Walker → Scanning
scanning_of walk = record { window = walk.window; inside = inside_of walk; from = walk.from; to = walk.to }

-- From one place of the file to another a scan passed these entries, which all lie below its range; the bounds are as
-- they were.
pub record PassesBelow (columns : Columns) (file : List ℕ) (scan scan' : Scanning) : Type 0 where
  pub passed : List EntryStrings
  pub below : AllByRecursion (IsEntryBelow scan.from) passed
  pub walk : Passes columns file scan.inside scan.window.at (entries_of passed) scan'.inside scan'.window.at
  pub from : scan'.from ≡ scan.from
  pub to : scan'.to ≡ scan.to
  pub strings : IsOpen columns scan.inside → IsOpen columns scan'.inside × AllByRecursion (IsEntryOf columns) passed

-- an entry of the table stands at a place, in the range; the scan is in its partition then, and nothing counts as below
pub record GivesEntry (columns : Columns) (file : List ℕ) (scan scan' : Scanning) (entry : EntryStrings) : Type 0 where
  pub not_below : IsEntryBelow scan.from entry → ⊥
  pub not_above : IsEntryAbove scan.to entry → ⊥
  pub walk : Passes columns file scan.inside scan.window.at (entry_of entry ∷ []) scan'.inside scan'.window.at
  pub from : scan'.from ≡ None
  pub to : scan'.to ≡ scan.to
  pub inside : scan'.inside ≡ Some entry.partition
  pub strings : IsOpen columns scan.inside → IsEntryOf columns entry

-- A scan goes from one place of the file to another, and gives this: the next entry of its range, behind the entries
-- below it; none at the range's end or the file's; or damage at the first place where nothing sound begins. After an
-- error it stands where what it has yet to give is the same.
abbrev pub Gives : Columns → List ℕ → Scanning → Scanning → Result (Option EntryStrings) DataError → Type 0
Gives columns file scan scan' (Ok (Some entry)) =
    (mid : Scanning) × PassesBelow columns file scan mid × GivesEntry columns file mid scan' entry
Gives columns file scan scan' (Ok None) =
    PassesBelow columns file scan scan' × IsPast columns file scan'.inside scan'.window.at scan'.to
Gives columns file scan scan' (Err (Damaged damage)) =
    PassesBelow columns file scan scan' × Stops columns file scan'.inside scan'.window.at [] (Some damage)
Gives columns file scan scan' (Err StoreFault) = PassesBelow columns file scan scan'
Gives columns file scan scan' (Err NoMemory) = PassesBelow columns file scan scan'
