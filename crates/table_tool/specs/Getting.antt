-- How `get` ends. This project's own.
use Rattle.std.specs.Prelude.{◌≡◌, ◌⊎◌, ℕ, List, Result, Ok, Err, IfSome}
use Rattle.outside.specs.Files.{Files}
use Rattle.outside.specs.Told.{WhereTold}
use Rattle.key_types.specs.Columns.{Columns}
use Rattle.key_types.specs.Table.{Table}
use Rattle.table_files.specs.Standing.{StandFor}
use Rattle.get_tool.specs.declared.asked.AskedKey.{AskedKey}
use Rattle.get_tool.specs.declared.error.GetError.{GetError}
use Rattle.get_tool.specs.declared.error.GetError.TheVariants as get_error
use Rattle.get_tool.specs.Asked.{NamesKey}
use Rattle.get_tool.specs.Laws.{ShowsOf}
use Rattle.get_tool.specs.ShowReads.{ShowsWithin}
use Rattle.get_tool.specs.Shown.{Shows}
use Rattle.table_tool.specs.declared.status.Status.{Status}
use Rattle.table_tool.specs.declared.status.Status.TheVariants as status
use Rattle.table_tool.specs.First.{first_generation}
use Rattle.table_tool.specs.Outcome.{IsOrNoMemory, PrintsText, SaysRefusal}
use Rattle.table_tool.specs.Outside.{FaultRose, KeepsSource, Outside, SinkFails, StoreFails}

-- the statuses that `get` may end with
abbrev pub IsOfGet : Status → Type 0
IsOfGet status.Ok = Unit {0}
IsOfGet status.Usage = Unit {0}
IsOfGet status.Key = ⊥
IsOfGet (status.BadLine line cause) = ⊥
IsOfGet (status.Full line) = ⊥
IsOfGet status.SourceFault = ⊥
IsOfGet status.SinkFault = Unit {0}
IsOfGet status.StoreFault = Unit {0}
IsOfGet (status.Damaged damage) = Unit {0}
IsOfGet status.Unfinished = Unit {0}
IsOfGet status.Exists = ⊥
IsOfGet status.TooLarge = ⊥
IsOfGet (status.Unsound mismatch) = Unit {0}
IsOfGet status.NoMemory = Unit {0}

-- the status with which what is shown ends: a line is printed, and what shows none is refused
abbrev pub EndsShown : Result (List ℕ) GetError → Status → Type 0
EndsShown (Ok line) result = (result ≡ status.Ok) ⊎ (result ≡ status.SinkFault)
EndsShown (Err get_error.Usage) result = IsOrNoMemory status.Usage result
EndsShown (Err get_error.StoreFault) result = IsOrNoMemory status.StoreFault result
EndsShown (Err (get_error.Damaged damage)) result = IsOrNoMemory (status.Damaged damage) result
EndsShown (Err get_error.Unfinished) result = IsOrNoMemory status.Unfinished result
EndsShown (Err get_error.NoMemory) result = result ≡ status.NoMemory

-- what is written of it: the line, or that of the refusal
abbrev pub WritesShown : Result (List ℕ) GetError → Status → ℕ → ℕ → List ℕ → List ℕ → Type 0
WritesShown (Ok line) result sink sink' before after = PrintsText line result before after
WritesShown (Err e) result sink sink' before after = SaysRefusal result sink sink' before after

-- a run ends with what is shown, and has written it
pub record ShowsAs (shown : Result (List ℕ) GetError) (before after : Outside) (result : Status) : Type 0 where
  pub ends : EndsShown shown result
  pub written : WhereTold before.written after.written (WritesShown shown result before.sink_faults after.sink_faults)

-- over files that stand for a map, what is shown is the line of the value that the map has at the key which the text names
abbrev pub ShowsOfMap : List ℕ → Files → Outside → Outside → Status → Type 0
ShowsOfMap text files before after result =
    (columns : Columns) (table : Table) → StandFor files first_generation columns table
    → (shown : Result (List ℕ) GetError) × ShowsOf columns table text shown × ShowsAs shown before after result

-- completeness: over such files, where the text names a key and neither store nor sink failed, it is Ok
abbrev pub FindsNamed : List ℕ → Files → Outside → Outside → Status → Type 0
FindsNamed text files before after result =
    (columns : Columns) (table : Table) (asked : AskedKey) → StandFor files first_generation columns table
    → NamesKey columns text asked → ¬ (StoreFails before after) → ¬ (SinkFails before after) → IsOrNoMemory status.Ok result

-- How `get` ends, from the text of its key.
pub record GetEnds (text : List ℕ) (before after : Outside) (result : Status) : Type 0 where
  -- it ends with no other status, and with a fault only where the count of that object's faults rose
  pub possible : IsOfGet result
  pub faults : FaultRose before after result
  -- the line of what is found at the key, or why there is none: the text names no key, the first damage, or a schema's file that isn't whole
  pub shown : (shown : Result (List ℕ) GetError)
      × IfSome before.files (λ files. Shows files first_generation text shown) × ShowsAs shown before after result
  pub stand : IfSome before.files (λ files. ShowsOfMap text files before after result)
  pub complete : IfSome before.files (λ files. FindsNamed text files before after result)
  -- over files that stand for a map, it reads the store so often at most
  pub reads : IfSome before.files (λ files. ShowsWithin files first_generation text before.reads after.reads)
  pub source : KeepsSource before after
  pub files : after.files ≡ before.files
