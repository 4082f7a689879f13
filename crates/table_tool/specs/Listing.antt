-- The whole outcome of `list`, and how it ends. This project's own.
use Rattle.std.specs.Prelude.{◌≡◌, ℕ, List, [], ◌++◌, Result, Ok, Err, IfSome}
use Rattle.outside.specs.Told.{WhereTold}
use Rattle.key_types.specs.Columns.{Columns}
use Rattle.script_text.specs.declared.script.Script.{Script}
use Rattle.script_text.specs.declared.script.ScriptError.{ScriptError}
use Rattle.script_text.specs.declared.script.ScriptError.TheVariants as script_error
use Rattle.script_text.specs.Script.{script_of, puts_of}
use Rattle.table_tool.specs.declared.status.Status.{Status}
use Rattle.table_tool.specs.declared.status.Status.TheVariants as status
use Rattle.script_run.specs.Runs.{HasRoom, IsFullAt}
use Rattle.table_tool.specs.Input.{EndsEarly}
use Rattle.table_tool.specs.Outcome.{AppendsPrefix, IsOrNoMemory, WritesRefusal, ended}
use Rattle.table_tool.specs.Outside.{FaultRose, KeepsStore, Outside, SinkFails, SourceFails}
use Rattle.table_tool.specs.Rows.{rows_of}
use Rattle.row_text.specs.Printed.{rows_text}

-- the text of a script's rows, or the status of its refusal
abbrev pub listing_of : Columns → Result Script ScriptError → Result (List ℕ) Status
listing_of columns (Ok script) = Ok (rows_text columns (rows_of (puts_of script.batches)))
listing_of columns (Err (script_error.BadLine line cause)) = Err (status.BadLine line cause)
listing_of columns (Err script_error.TooLarge) = Err status.TooLarge
listing_of columns (Err script_error.NoMemory) = Err status.NoMemory

-- what `list` makes of the source's bytes: the rows and static values of the sorted map of all puts, or why there are none
abbrev pub listing : Columns → List ℕ → Result (List ℕ) Status
listing columns bytes = listing_of columns (script_of columns 1 bytes)

-- of the puts of these bytes' script this line is the first for which a shard of so many cells has no room
abbrev pub FillsShard : ℕ → Columns → List ℕ → ℕ → Type 0
FillsShard cells columns bytes line = (script : Script) × (script_of columns 1 bytes ≡ Ok script) × IsFullAt cells [] [] (puts_of script.batches) 0 line

-- a shard of so many cells has room for the puts of their script, where they spell one
abbrev pub FitsShard : ℕ → Columns → List ℕ → Type 0
FitsShard cells columns bytes = (script : Script) → script_of columns 1 bytes ≡ Ok script → HasRoom cells [] (puts_of script.batches)

-- the statuses that `list` may end with
abbrev pub IsOfList : Status → Type 0
IsOfList status.Ok = Unit {0}
IsOfList status.Usage = ⊥
IsOfList status.Key = ⊥
IsOfList (status.BadLine line cause) = Unit {0}
IsOfList (status.Full line) = Unit {0}
IsOfList status.SourceFault = Unit {0}
IsOfList status.SinkFault = Unit {0}
IsOfList status.StoreFault = ⊥
IsOfList (status.Damaged damage) = ⊥
IsOfList status.Unfinished = ⊥
IsOfList status.Exists = ⊥
IsOfList status.TooLarge = Unit {0}
IsOfList (status.Unsound mismatch) = ⊥
IsOfList status.NoMemory = Unit {0}

-- what is expected: a text at Ok and where the sink failed, and for a bad line and a script that is too large that refusal
abbrev pub IsListed : Status → Result (List ℕ) Status → Type 0
IsListed status.Ok expected = (text : List ℕ) × (expected ≡ Ok text)
IsListed status.Usage expected = ⊥
IsListed status.Key expected = ⊥
IsListed (status.BadLine line cause) expected = expected ≡ Err (status.BadLine line cause)
IsListed (status.Full line) expected = (text : List ℕ) × (expected ≡ Ok text)
IsListed status.SourceFault expected = Unit {0}
IsListed status.SinkFault expected = (text : List ℕ) × (expected ≡ Ok text)
IsListed status.StoreFault expected = ⊥
IsListed (status.Damaged damage) expected = ⊥
IsListed status.Unfinished expected = ⊥
IsListed status.Exists expected = ⊥
IsListed status.TooLarge expected = expected ≡ Err status.TooLarge
IsListed (status.Unsound mismatch) expected = ⊥
IsListed status.NoMemory expected = Unit {0}

-- Ok has written exactly this text, and a fault of the sink a prefix of it; what a refusal writes is said apart
abbrev pub WritesRows : Status → List ℕ → List ℕ → List ℕ → Type 0
WritesRows status.Ok text before after = after ≡ before ++ text
WritesRows status.Usage text before after = Unit {0}
WritesRows status.Key text before after = Unit {0}
WritesRows (status.BadLine line cause) text before after = Unit {0}
WritesRows (status.Full line) text before after = Unit {0}
WritesRows status.SourceFault text before after = Unit {0}
WritesRows status.SinkFault text before after = AppendsPrefix text before after
WritesRows status.StoreFault text before after = Unit {0}
WritesRows (status.Damaged damage) text before after = Unit {0}
WritesRows status.Unfinished text before after = Unit {0}
WritesRows status.Exists text before after = Unit {0}
WritesRows status.TooLarge text before after = Unit {0}
WritesRows (status.Unsound mismatch) text before after = Unit {0}
WritesRows status.NoMemory text before after = Unit {0}

-- How `list` ends, from the columns of its schema and the cells of its shard.
pub record ListEnds (columns : Columns) (cells : ℕ) (before after : Outside) (result : Status) : Type 0 where
  -- it ends with no other status, and with a fault only where the count of that object's faults rose
  pub possible : IsOfList result
  pub faults : FaultRose before after result
  -- Ok comes only where the script is accepted, BadLine and TooLarge only where it is refused for that
  pub decided : IfSome before.left (λ bytes. IsListed result (listing columns bytes))
  -- Full comes exactly where the shard has no room for a put, at the first
  pub full : IfSome before.left (λ bytes. (line : ℕ) → result ≡ status.Full line → FillsShard cells columns bytes line)
  -- completeness: where neither source nor sink failed, it is Ok for a script that is accepted and for whose puts there is room, and else
  -- the status of its refusal
  pub complete : IfSome before.left (λ bytes. ¬ (SourceFails before after) → ¬ (SinkFails before after) → FitsShard cells columns bytes
      → IsOrNoMemory (ended (listing columns bytes)) result)
  -- the rows and static values of the sorted map of all puts, and how many rows there are
  pub rows : IfSome before.left (λ bytes. (text : List ℕ) → listing columns bytes ≡ Ok text → WhereTold before.written after.written (WritesRows result text))
  -- a refusal has written its line and nothing else
  pub refusal : WritesRefusal before after result
  pub store : KeepsStore before after

-- ---- how the parts of `list` answer

-- what is expected, unless the source failed, the shard was full or memory ran out
abbrev pub GivesOrFault : Result (List ℕ) Status → Result (List ℕ) Status → Type 0
GivesOrFault (Err status.SourceFault) expected = Unit {0}
GivesOrFault (Err status.NoMemory) expected = Unit {0}
GivesOrFault (Err (status.Full line)) expected = (text : List ℕ) × (expected ≡ Ok text)
GivesOrFault result expected = expected ≡ result

-- the statuses with which no text is given
abbrev pub StopsList : Status → Type 0
StopsList (status.Full line) = Unit {0}
StopsList result = EndsEarly result
