-- What a run has written, by its status. This project's own.
use Rattle.std.specs.Prelude.{◌≡◌, ◌⊎◌, ℕ, ◌≤◌, List, ◌++◌, length, take, Result, Ok, Err}
use Rattle.outside.specs.Told.{WhereTold}
use Rattle.outside.specs.Causes.{Rose}
use Rattle.table_tool.specs.declared.status.Status.{Status}
use Rattle.table_tool.specs.declared.status.Status.TheVariants as status
use Rattle.table_tool.specs.FaultLine.{fault_line}
use Rattle.table_tool.specs.Outside.{Outside, KeepsSource, KeepsStore}

-- ---- the status

-- this status, unless memory ran out
abbrev pub IsOrNoMemory : Status → Status → Type 0
IsOrNoMemory expected status.NoMemory = Unit {0}
IsOrNoMemory expected result = result ≡ expected

-- the status with which what is expected ends, where nothing fails
abbrev pub ended : {X : Type 0} → Result X Status → Status
ended (Ok x) = status.Ok
ended (Err result) = result

-- the statuses that end with a fault line
abbrev pub IsRefusal : Status → Type 0
IsRefusal status.Ok = ⊥
IsRefusal status.Usage = Unit {0}
IsRefusal status.Key = Unit {0}
IsRefusal (status.BadLine line cause) = Unit {0}
IsRefusal (status.Full line) = Unit {0}
IsRefusal status.SourceFault = Unit {0}
IsRefusal status.SinkFault = ⊥
IsRefusal status.StoreFault = Unit {0}
IsRefusal (status.Damaged damage) = Unit {0}
IsRefusal status.Unfinished = Unit {0}
IsRefusal status.Exists = Unit {0}
IsRefusal status.TooLarge = Unit {0}
IsRefusal (status.Unsound mismatch) = Unit {0}
IsRefusal status.NoMemory = ⊥

-- ---- what was written

abbrev pub AppendsPrefix : List ℕ → List ℕ → List ℕ → Type 0
AppendsPrefix text before after = (count : ℕ) × (count ≤ length text) × (after ≡ before ++ take count text)

-- the whole text, or a prefix of it where the sink's count of faults rose
abbrev pub Says : List ℕ → ℕ → ℕ → List ℕ → List ℕ → Type 0
Says text sink sink' before after = (after ≡ before ++ text) ⊎ (Rose sink sink' × AppendsPrefix text before after)

-- a refusal has written its fault line and nothing else; want of memory has written nothing; Ok and a fault of the sink are no refusals
abbrev pub SaysRefusal : Status → ℕ → ℕ → List ℕ → List ℕ → Type 0
SaysRefusal status.Ok sink sink' before after = Unit {0}
SaysRefusal status.Usage sink sink' before after = Says (fault_line status.Usage) sink sink' before after
SaysRefusal status.Key sink sink' before after = Says (fault_line status.Key) sink sink' before after
SaysRefusal (status.BadLine line cause) sink sink' before after = Says (fault_line (status.BadLine line cause)) sink sink' before after
SaysRefusal (status.Full line) sink sink' before after = Says (fault_line (status.Full line)) sink sink' before after
SaysRefusal status.SourceFault sink sink' before after = Says (fault_line status.SourceFault) sink sink' before after
SaysRefusal status.SinkFault sink sink' before after = Unit {0}
SaysRefusal status.StoreFault sink sink' before after = Says (fault_line status.StoreFault) sink sink' before after
SaysRefusal (status.Damaged damage) sink sink' before after = Says (fault_line (status.Damaged damage)) sink sink' before after
SaysRefusal status.Unfinished sink sink' before after = Says (fault_line status.Unfinished) sink sink' before after
SaysRefusal status.Exists sink sink' before after = Says (fault_line status.Exists) sink sink' before after
SaysRefusal status.TooLarge sink sink' before after = Says (fault_line status.TooLarge) sink sink' before after
SaysRefusal (status.Unsound mismatch) sink sink' before after = Says (fault_line (status.Unsound mismatch)) sink sink' before after
SaysRefusal status.NoMemory sink sink' before after = after ≡ before

-- the same of what stands outside
abbrev pub WritesRefusal : Outside → Outside → Status → Type 0
WritesRefusal before after result = WhereTold before.written after.written (SaysRefusal result before.sink_faults after.sink_faults)

-- a text that is printed: the whole of it at Ok, a prefix of it where the sink failed
abbrev pub PrintsText : List ℕ → Status → List ℕ → List ℕ → Type 0
PrintsText text status.Ok before after = after ≡ before ++ text
PrintsText text status.SinkFault before after = AppendsPrefix text before after
PrintsText text _ before after = ⊥

-- ---- refused words

-- How words end that are refused by themselves: with Usage, want of memory aside, its line is written, and nothing else is touched.
pub record UsageEnds (before after : Outside) (result : Status) : Type 0 where
  pub possible : IsOrNoMemory status.Usage result
  pub refusal : WritesRefusal before after result
  pub source : KeepsSource before after
  pub store : KeepsStore before after
