-- How `gen` ends, in its two forms. This project's own.
use Rattle.std.specs.Prelude.{◌≡◌, ℕ, List, ◌++◌, Option, Some, None, Result, Ok}
use Rattle.outside.specs.Files.{Files}
use Rattle.outside.specs.Told.{WhereTold}
use Rattle.script_text.specs.Generator.{generated_script}
use Rattle.script_text.specs.Script.{puts_of}
use Rattle.script_text.specs.declared.script.Script.{Script}
use Rattle.table_tool.specs.declared.request.GeneratedScript.{GeneratedScript}
use Rattle.table_tool.specs.declared.status.Status.{Status}
use Rattle.table_tool.specs.declared.status.Status.TheVariants as status
use Rattle.table_tool.specs.Keys.{WritesLine}
use Rattle.table_tool.specs.Loading.{LoadAsked, LoadEnds, Loaded, loading}
use Rattle.table_tool.specs.Outcome.{AppendsPrefix, IsOrNoMemory, SaysRefusal}
use Rattle.table_tool.specs.Outside.{FaultRose, KeepsSource, KeepsStore, Outside, SinkFails}

-- the bytes of a script
abbrev pub script_bytes : GeneratedScript → List ℕ
script_bytes script = generated_script script.seed script.count script.gets

-- ---- `gen --print`

-- the statuses that it may end with
abbrev pub IsOfPrint : Status → Type 0
IsOfPrint status.Ok = Unit {0}
IsOfPrint status.Usage = ⊥
IsOfPrint status.Key = ⊥
IsOfPrint (status.BadLine line cause) = ⊥
IsOfPrint (status.Full line) = ⊥
IsOfPrint status.SourceFault = ⊥
IsOfPrint status.SinkFault = Unit {0}
IsOfPrint status.StoreFault = ⊥
IsOfPrint (status.Damaged damage) = ⊥
IsOfPrint status.Unfinished = ⊥
IsOfPrint status.Exists = ⊥
IsOfPrint status.TooLarge = ⊥
IsOfPrint (status.Unsound mismatch) = ⊥
IsOfPrint status.NoMemory = Unit {0}

-- How `gen --print` ends, from the numbers of the script.
pub record PrintEnds (script : GeneratedScript) (before after : Outside) (result : Status) : Type 0 where
  -- it ends with no other status, and with a fault only where the count of that object's faults rose
  pub possible : IsOfPrint result
  pub faults : FaultRose before after result
  -- the script is written
  pub printed : WhereTold before.written after.written (WritesLine result (script_bytes script))
  -- completeness: where the sink didn't fail, it is Ok
  pub complete : ¬ (SinkFails before after) → IsOrNoMemory status.Ok result
  pub source : KeepsSource before after
  pub store : KeepsStore before after

-- ---- `gen` without `--print`

-- the same with a source that has this left and never failed, and with a sink that tells nothing
abbrev pub with_source : Option (List ℕ) → Outside → Outside
with_source left outside = record outside { left = left; source_faults = 0; written = None }

-- the files of the expected script were added, and this is their line
abbrev pub IsLineOfFiles : LoadAsked → Result Script Status → Option Files → Option Files → List ℕ → Type 0
IsLineOfFiles asked expected files files' line =
    (script : Script) × (expected ≡ Ok script) × Loaded asked.columns (puts_of script.batches) files files' line

-- what is written: the line of the files alone, or that of a refusal
abbrev pub WritesGen : LoadAsked → Result Script Status → Option Files → Option Files → Status → ℕ → ℕ → List ℕ → List ℕ → Type 0
WritesGen asked expected files files' status.Ok sink sink' before after =
    (line : List ℕ) × IsLineOfFiles asked expected files files' line × (after ≡ before ++ line)
WritesGen asked expected files files' status.SinkFault sink sink' before after =
    (line : List ℕ) × IsLineOfFiles asked expected files files' line × AppendsPrefix line before after
WritesGen asked expected files files' status.Usage sink sink' before after = ⊥
WritesGen asked expected files files' status.Key sink sink' before after = ⊥
WritesGen asked expected files files' (status.BadLine line cause) sink sink' before after =
    SaysRefusal (status.BadLine line cause) sink sink' before after
WritesGen asked expected files files' (status.Full line) sink sink' before after =
    SaysRefusal (status.Full line) sink sink' before after
WritesGen asked expected files files' status.SourceFault sink sink' before after = ⊥
WritesGen asked expected files files' status.StoreFault sink sink' before after =
    SaysRefusal status.StoreFault sink sink' before after
WritesGen asked expected files files' (status.Damaged damage) sink sink' before after = ⊥
WritesGen asked expected files files' status.Unfinished sink sink' before after = ⊥
WritesGen asked expected files files' status.Exists sink sink' before after = SaysRefusal status.Exists sink sink' before after
WritesGen asked expected files files' status.TooLarge sink sink' before after =
    SaysRefusal status.TooLarge sink sink' before after
WritesGen asked expected files files' (status.Unsound mismatch) sink sink' before after = ⊥
WritesGen asked expected files files' status.NoMemory sink sink' before after = after ≡ before

-- How `gen` without `--print` ends, from the bytes of its script.
pub record GenEnds (bytes : List ℕ) (asked : LoadAsked) (before after : Outside) (result : Status) : Type 0 where
  -- all that `load` promises over a source that has these bytes and never fails, and a sink that tells nothing
  pub load : (left : Option (List ℕ)) × LoadEnds asked (with_source (Some bytes) before) (with_source left after) result
  -- a fault comes only where the count of that object's faults rose
  pub faults : FaultRose before after result
  -- the answers aren't written
  pub written : WhereTold before.written after.written
      (WritesGen asked (loading asked bytes) before.files after.files result before.sink_faults after.sink_faults)
  pub source : KeepsSource before after
