-- Where a scan over a range begins, and what it gives. This project's own.
use Rattle.std.specs.Prelude.{◌≡◌, ◌⊎◌, ℕ, ◌<◌, ◌≤◌, ◌^◌, false, List, [], length, Option, None, Some, Result, Ok, Err, IfSome}
use Rattle.outside.specs.Files.{Files, bytes_of}
use Rattle.key_types.specs.Columns.{Columns}
use Rattle.bti_nodes.specs.declared.damage.Cause.TheVariants.{BadRow}
use Rattle.data_file.specs.declared.reading.DataError.{DataError}
use Rattle.data_file.specs.declared.reading.DataError.TheVariants as data_error
use Rattle.data_file.specs.Answers.{damage_at}
use Rattle.index_files.specs.declared.footer.FooterNumbers.{FooterNumbers}
use Rattle.table_files.specs.Names.{data_id}
use Rattle.table_reader.specs.declared.fault.TableFault.{TableFault}
use Rattle.table_reader.specs.declared.fault.TableFault.TheVariants.{StoreFault, Damaged, Unfinished, NoMemory}
use Rattle.table_reader.specs.declared.seek.BoundString.{BoundString}
use Rattle.table_reader.specs.declared.seek.Start.{Start}
use Rattle.table_reader.specs.declared.walker.EntryStrings.{EntryStrings}
use Rattle.table_reader.specs.declared.walker.Walker.{Walker}
use Rattle.table_reader.specs.Ranges.{Gives, IsEntryOf, IsOpen, Scanning, inside_of, scanning_of}
use Rattle.table_reader.specs.Gets.{TableBytes}
use Rattle.table_reader.specs.Seeking.{BeginsScan}
use Rattle.table_reader.specs.Window.{Continues, Unread}

-- a window at a place of a file of so many bytes, of which nothing was read
abbrev pub unread_at : ℕ → ℕ → Unread
unread_at at limit = record { bytes = []; at = at; limit = limit; whole = false }

-- a scan between two bounds that begins there, in a Data.db of so many bytes; at its end where there is no such place
abbrev pub begun : ℕ → Option BoundString → Option BoundString → Option Start → Scanning
begun limit from to None = record { window = unread_at limit limit; inside = None; from = from; to = to }
begun limit from to (Some start) = record { window = unread_at start.at limit; inside = start.partition; from = from; to = to }

-- the place lies behind the file's end, where no row stands
abbrev pub IsBehindEnd : ℕ → Option Start → DataError → Type 0
IsBehindEnd limit None (data_error.Damaged damage) = ⊥
IsBehindEnd limit (Some start) (data_error.Damaged damage) = (limit < start.at) × (damage ≡ damage_at start.at BadRow)
IsBehindEnd limit start data_error.StoreFault = Unit {0}
IsBehindEnd limit start data_error.NoMemory = Unit {0}

-- the string of the partition in which a scan begins
abbrev pub inside_at : Option Start → Option (List ℕ)
inside_at None = None
inside_at (Some start) = start.partition

-- a walk stands there, in a file of fewer than 2^62 bytes or at its end
pub record IsPlaced (start : Option Start) (walk : Walker) : Type 0 where
  pub at : walk.window.at ≤ walk.window.limit
  pub limit : walk.window.limit < 2 ^ 62
  pub inside : inside_of walk ≡ inside_at start

-- the walk that begins there, or why there is none
abbrev pub BeginsWalk : ℕ → Option BoundString → Option BoundString → Option Start → Result Walker DataError → Type 0
BeginsWalk limit from to start (Ok walk) = scanning_of walk ≡ begun limit from to start
BeginsWalk limit from to start (Err e) = IsBehindEnd limit start e

-- A scan begins where the search for its lower bound comes to. Damage is told of a place that the search asks for, or of
-- the block that it comes to, where that lies behind the file's end.
abbrev pub Scans : TableBytes → FooterNumbers → Option BoundString → Option BoundString → Result Scanning TableFault → Type 0
Scans table footer from to (Ok scan) = (start : Option Start) × BeginsScan table footer from (Ok start)
    × (scan ≡ begun (length table.entries) from to start)
Scans table footer from to (Err (Damaged damage)) = BeginsScan table footer from (Err damage)
    ⊎ ((start : Start) × BeginsScan table footer from (Ok (Some start)) × (length table.entries < start.at)
    × (damage ≡ damage_at start.at BadRow))
Scans table footer from to (Err Unfinished) = ⊥
Scans table footer from to (Err StoreFault) = Unit {0}
Scans table footer from to (Err NoMemory) = Unit {0}

-- whatever the store tells, a scan stands in a file of fewer than 2^62 bytes or at its end, in a partition of the table or
-- in none
pub record IsInFile (columns : Columns) (scan : Scanning) : Type 0 where
  pub at : scan.window.at ≤ scan.window.limit
  pub limit : scan.window.limit < 2 ^ 62
  pub inside : IsOpen columns scan.inside

-- and it goes on to an entry: further on in the file, and in a partition of the table it gives strings of the table
pub record GoesTo (columns : Columns) (scan scan' : Scanning) (entry : EntryStrings) : Type 0 where
  pub further : scan.window.at < scan'.window.at
  pub at : scan'.window.at ≤ scan'.window.limit
  pub strings : IsOpen columns scan.inside → IsOpen columns scan'.inside × IsEntryOf columns entry

-- what a scan holds is of the table's Data.db, where the store tells it
abbrev pub ScanStands : Option Files → ℕ → Scanning → Type 0
ScanStands files generation scan = IfSome files (λ m. Continues (bytes_of m (data_id generation)) scan.window)

-- what a scan gives, as the table's call answers it
abbrev pub GivesNext : Columns → List ℕ → Scanning → Scanning → Result (Option EntryStrings) TableFault → Type 0
GivesNext columns file scan scan' (Ok found) = Gives columns file scan scan' (Ok found)
GivesNext columns file scan scan' (Err (Damaged damage)) = Gives columns file scan scan' (Err (data_error.Damaged damage))
GivesNext columns file scan scan' (Err Unfinished) = ⊥
GivesNext columns file scan scan' (Err StoreFault) = Gives columns file scan scan' (Err data_error.StoreFault)
GivesNext columns file scan scan' (Err NoMemory) = Gives columns file scan scan' (Err data_error.NoMemory)
