-- How `check` ends. This project's own.
use Rattle.std.specs.Prelude.{◌≡◌, ◌⊎◌, ℕ, List, ◌++◌, codes, Result, Ok, Err, IfSome}
use Rattle.std.specs.Fmt.{decimal}
use Rattle.outside.specs.Files.{Files}
use Rattle.outside.specs.Told.{WhereTold}
use Rattle.key_types.specs.Columns.{Columns}
use Rattle.key_types.specs.Table.{Table}
use Rattle.data_file.specs.declared.writer.Counts.{Counts}
use Rattle.table_files.specs.Standing.{StandFor}
use Rattle.table_reader.specs.declared.fault.TableFault.{TableFault}
use Rattle.table_reader.specs.declared.fault.TableFault.TheVariants as fault
use Rattle.table_check.specs.declared.verdict.Verdict.{Verdict}
use Rattle.table_check.specs.declared.verdict.Verdict.TheVariants.{Sound, Unsound}
use Rattle.table_check.specs.Check.{Checks}
use Rattle.table_tool.specs.declared.status.Status.{Status}
use Rattle.table_tool.specs.declared.status.Status.TheVariants as status
use Rattle.table_tool.specs.First.{first_generation}
use Rattle.table_tool.specs.Outcome.{IsOrNoMemory, PrintsText, SaysRefusal}
use Rattle.table_tool.specs.Outside.{FaultRose, KeepsSource, Outside, SinkFails, StoreFails}

-- the statuses that `check` may end with
abbrev pub IsOfCheck : Status → Type 0
IsOfCheck status.Ok = Unit {0}
IsOfCheck status.Usage = ⊥
IsOfCheck status.Key = ⊥
IsOfCheck (status.BadLine line cause) = ⊥
IsOfCheck (status.Full line) = ⊥
IsOfCheck status.SourceFault = ⊥
IsOfCheck status.SinkFault = Unit {0}
IsOfCheck status.StoreFault = Unit {0}
IsOfCheck (status.Damaged damage) = Unit {0}
IsOfCheck status.Unfinished = Unit {0}
IsOfCheck status.Exists = ⊥
IsOfCheck status.TooLarge = ⊥
IsOfCheck (status.Unsound mismatch) = Unit {0}
IsOfCheck status.NoMemory = Unit {0}

-- the line of files that stand for a map
abbrev pub sound_line : Counts → List ℕ
sound_line counts =
    codes "sound partitions " ++ decimal counts.partitions ++ codes " rows " ++ decimal counts.rows ++ codes "\n"

-- the status with which a verdict ends: the line of sound files is printed, and all else is refused
abbrev pub EndsVerdict : Result Verdict TableFault → Status → Type 0
EndsVerdict (Ok (Sound counts)) result = (result ≡ status.Ok) ⊎ (result ≡ status.SinkFault) ⊎ (result ≡ status.NoMemory)
EndsVerdict (Ok (Unsound mismatch)) result = IsOrNoMemory (status.Unsound mismatch) result
EndsVerdict (Err fault.StoreFault) result = IsOrNoMemory status.StoreFault result
EndsVerdict (Err (fault.Damaged damage)) result = IsOrNoMemory (status.Damaged damage) result
EndsVerdict (Err fault.Unfinished) result = IsOrNoMemory status.Unfinished result
EndsVerdict (Err fault.NoMemory) result = result ≡ status.NoMemory

-- a line is printed, unless memory runs out before
abbrev pub PrintsLine : List ℕ → Status → List ℕ → List ℕ → Type 0
PrintsLine line result before after = PrintsText line result before after ⊎ ((result ≡ status.NoMemory) × (after ≡ before))

-- what is written of a verdict: the line of sound files, or that of the refusal
abbrev pub WritesVerdict : Result Verdict TableFault → Status → ℕ → ℕ → List ℕ → List ℕ → Type 0
WritesVerdict (Ok (Sound counts)) result sink sink' before after = PrintsLine (sound_line counts) result before after
WritesVerdict (Ok (Unsound mismatch)) result sink sink' before after = SaysRefusal result sink sink' before after
WritesVerdict (Err e) result sink sink' before after = SaysRefusal result sink sink' before after

-- a run ends with a verdict, and has written it
pub record SaysVerdict (verdict : Result Verdict TableFault) (before after : Outside) (result : Status) : Type 0 where
  pub ends : EndsVerdict verdict result
  pub written : WhereTold before.written after.written (WritesVerdict verdict result before.sink_faults after.sink_faults)

-- completeness: over files that stand for a map, where neither store nor sink failed, it is Ok
abbrev pub FindsSound : Files → Outside → Outside → Status → Type 0
FindsSound files before after result =
    (columns : Columns) (table : Table) → StandFor files first_generation columns table
    → ¬ (StoreFails before after) → ¬ (SinkFails before after) → IsOrNoMemory status.Ok result

-- How `check` ends.
pub record CheckEnds (before after : Outside) (result : Status) : Type 0 where
  -- it ends with no other status, and with a fault only where the count of that object's faults rose
  pub possible : IsOfCheck result
  pub faults : FaultRose before after result
  -- the files stand for a map with so many partitions and rows, or they stand for none, as the first damage or clash shows, or the schema's file
  -- isn't whole
  pub verdict : (verdict : Result Verdict TableFault)
      × IfSome before.files (λ files. Checks files first_generation verdict) × SaysVerdict verdict before after result
  pub complete : IfSome before.files (λ files. FindsSound files before after result)
  pub source : KeepsSource before after
  pub files : after.files ≡ before.files
