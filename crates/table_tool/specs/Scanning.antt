-- How `scan` ends. This project's own.
use Rattle.std.specs.Prelude.{◌≡◌, ℕ, List, Option, Result, Ok, Err, IfSome, ⊤}
use Rattle.outside.specs.Files.{Files}
use Rattle.outside.specs.Told.{WhereTold}
use Rattle.key_types.specs.Columns.{Columns}
use Rattle.key_types.specs.Table.{Table}
use Rattle.byte_comparable.specs.declared.strings.Side.TheVariants.{Before, After}
use Rattle.table_files.specs.Standing.{StandFor}
use Rattle.table_reader.specs.declared.seek.BoundString.{BoundString}
use Rattle.scan_tool.specs.declared.error.ScanError.{ScanError}
use Rattle.scan_tool.specs.declared.error.ScanError.TheVariants as scan_error
use Rattle.scan_tool.specs.Bounds.{NamesEnd}
use Rattle.scan_tool.specs.Laws.{PrintsOf}
use Rattle.scan_tool.specs.PrintReads.{PrintsWithin}
use Rattle.scan_tool.specs.Printing.{PrintsRange}
use Rattle.table_tool.specs.declared.status.Status.{Status}
use Rattle.table_tool.specs.declared.status.Status.TheVariants as status
use Rattle.table_tool.specs.First.{first_generation}
use Rattle.table_tool.specs.Outcome.{IsOrNoMemory, SaysRefusal}
use Rattle.table_tool.specs.Outside.{FaultRose, KeepsSource, Outside, SinkFails, StoreFails}

-- the statuses that `scan` may end with
abbrev pub IsOfScan : Status → Type 0
IsOfScan status.Ok = Unit {0}
IsOfScan status.Usage = Unit {0}
IsOfScan status.Key = ⊥
IsOfScan (status.BadLine line cause) = ⊥
IsOfScan (status.Full line) = ⊥
IsOfScan status.SourceFault = ⊥
IsOfScan status.SinkFault = Unit {0}
IsOfScan status.StoreFault = Unit {0}
IsOfScan (status.Damaged damage) = Unit {0}
IsOfScan status.Unfinished = Unit {0}
IsOfScan status.Exists = ⊥
IsOfScan status.TooLarge = ⊥
IsOfScan (status.Unsound mismatch) = Unit {0}
IsOfScan status.NoMemory = Unit {0}

-- the status with which a range that was printed so far ends
abbrev pub EndsRange : Result ⊤ ScanError → Status → Type 0
EndsRange (Ok x) result = result ≡ status.Ok
EndsRange (Err scan_error.Usage) result = IsOrNoMemory status.Usage result
EndsRange (Err scan_error.SinkFault) result = result ≡ status.SinkFault
EndsRange (Err scan_error.StoreFault) result = IsOrNoMemory status.StoreFault result
EndsRange (Err (scan_error.Damaged damage)) result = IsOrNoMemory (status.Damaged damage) result
EndsRange (Err scan_error.Unfinished) result = IsOrNoMemory status.Unfinished result
EndsRange (Err scan_error.NoMemory) result = result ≡ status.NoMemory

-- what is written behind it: nothing, or the line of the refusal
abbrev pub SaysBehind : Result ⊤ ScanError → Status → ℕ → ℕ → List ℕ → List ℕ → Type 0
SaysBehind (Ok x) result sink sink' before after = after ≡ before
SaysBehind (Err scan_error.SinkFault) result sink sink' before after = after ≡ before
SaysBehind (Err scan_error.NoMemory) result sink sink' before after = after ≡ before
SaysBehind (Err scan_error.Usage) result sink sink' before after = SaysRefusal result sink sink' before after
SaysBehind (Err scan_error.StoreFault) result sink sink' before after = SaysRefusal result sink sink' before after
SaysBehind (Err (scan_error.Damaged damage)) result sink sink' before after = SaysRefusal result sink sink' before after
SaysBehind (Err scan_error.Unfinished) result sink sink' before after = SaysRefusal result sink sink' before after

-- a run that has printed a range so far, up to what is written between, ends so
pub record EndsAs (printed : Result ⊤ ScanError) (between : Option (List ℕ)) (before after : Outside) (result : Status) : Type 0 where
  pub ends : EndsRange printed result
  pub behind : WhereTold between after.written (SaysBehind printed result before.sink_faults after.sink_faults)

-- a range is printed, as `Is` says from what was written before it and behind it, and the run ends so
abbrev pub PrintsAnd : (Option (List ℕ) → Option (List ℕ) → Result ⊤ ScanError → Type 0) → Outside → Outside → Status → Type 0
PrintsAnd Is before after result =
    (printed : Result ⊤ ScanError) × (between : Option (List ℕ))
    × Is before.written between printed × EndsAs printed between before after result

-- over files that stand for a map, it is printed of the map
abbrev pub ScansOfMap : Option (List ℕ) → Option (List ℕ) → Files → Outside → Outside → Status → Type 0
ScansOfMap from to files before after result =
    (columns : Columns) (table : Table) → StandFor files first_generation columns table
    → PrintsAnd (PrintsOf columns table from to) before after result

-- the texts name two ends of a range
abbrev pub NamesRange : Columns → Option (List ℕ) → Option (List ℕ) → Type 0
NamesRange columns from to =
    (lower upper : Option BoundString) × NamesEnd columns Before from lower × NamesEnd columns After to upper

-- completeness: over such files, where the texts name a range and neither store nor sink failed, it is Ok
abbrev pub ScansNamed : Option (List ℕ) → Option (List ℕ) → Files → Outside → Outside → Status → Type 0
ScansNamed from to files before after result =
    (columns : Columns) (table : Table) → StandFor files first_generation columns table → NamesRange columns from to
    → ¬ (StoreFails before after) → ¬ (SinkFails before after) → IsOrNoMemory status.Ok result

-- How `scan` ends, from the texts of its bounds.
pub record ScanEnds (from to : Option (List ℕ)) (before after : Outside) (result : Status) : Type 0 where
  -- it ends with no other status, and with a fault only where the count of that object's faults rose
  pub possible : IsOfScan result
  pub faults : FaultRose before after result
  -- over any files, the entries of the range in the order of the file, to its end or to the first place where nothing sound begins;
  -- or nothing, as a text names no bound, or the schema's file isn't whole
  pub printed : PrintsAnd (PrintsRange before.files first_generation from to) before after result
  pub stand : IfSome before.files (λ files. ScansOfMap from to files before after result)
  pub complete : IfSome before.files (λ files. ScansNamed from to files before after result)
  -- over files that stand for a map, it reads the store so often at most
  pub reads : IfSome before.files (λ files. PrintsWithin files first_generation from to before.reads after.reads)
  pub source : KeepsSource before after
  pub files : after.files ≡ before.files
