-- What is read of a source. This project's own.
use Rattle.std.specs.Prelude.{◌≡◌, ℕ, ◌≤◌, ◌<◌, List, ◌++◌, length, Option, Result, Ok, Err}
use Rattle.key_types.specs.Columns.{Columns}
use Rattle.outside.specs.Told.{WhereTold}
use Rattle.script_text.specs.declared.script.Script.{Script}
use Rattle.script_text.specs.declared.script.ScriptError.{ScriptError}
use Rattle.script_text.specs.declared.script.ScriptError.TheVariants as script_error
use Rattle.script_text.specs.Script.{most_bytes, script_of}
use Rattle.table_tool.specs.declared.input.InputError.{InputError}
use Rattle.table_tool.specs.declared.input.InputError.TheVariants.{Fault, TooLarge, NoMemory}
use Rattle.table_tool.specs.declared.status.Status.{Status}
use Rattle.table_tool.specs.declared.status.Status.TheVariants as status

-- all bytes of the source, where they are at most 67,108,864; TooLarge only where there are more
abbrev pub ReadIs : Result (List ℕ) InputError → List ℕ → Type 0
ReadIs (Ok all) bytes = (all ≡ bytes) × (length bytes ≤ most_bytes)
ReadIs (Err TooLarge) bytes = most_bytes < length bytes
ReadIs (Err Fault) bytes = Unit {0}
ReadIs (Err NoMemory) bytes = Unit {0}

-- these bytes were taken so far
abbrev pub Taken : Option (List ℕ) → Option (List ℕ) → List ℕ → Type 0
Taken before now all = WhereTold before now (λ xs ys. xs ≡ all ++ ys)

-- the script is one that some bytes spell under these columns, for so many readers
abbrev pub IsSpelled : Columns → ℕ → Script → Type 0
IsSpelled columns readers script = (bytes : List ℕ) × (script_of columns readers bytes ≡ Ok script)

-- the script that is expected, unless the source failed or memory ran out
abbrev pub TakesScript : Result Script Status → Result Script ScriptError → Type 0
TakesScript (Ok script) expected = expected ≡ Ok script
TakesScript (Err (status.BadLine line cause)) expected = expected ≡ Err (script_error.BadLine line cause)
TakesScript (Err status.TooLarge) expected = expected ≡ Err script_error.TooLarge
TakesScript (Err status.SourceFault) expected = Unit {0}
TakesScript (Err status.NoMemory) expected = Unit {0}
TakesScript (Err status.Ok) expected = ⊥
TakesScript (Err status.Usage) expected = ⊥
TakesScript (Err status.Key) expected = ⊥
TakesScript (Err (status.Full line)) expected = ⊥
TakesScript (Err status.SinkFault) expected = ⊥
TakesScript (Err status.StoreFault) expected = ⊥
TakesScript (Err (status.Damaged damage)) expected = ⊥
TakesScript (Err status.Unfinished) expected = ⊥
TakesScript (Err status.Exists) expected = ⊥
TakesScript (Err (status.Unsound mismatch)) expected = ⊥

-- the statuses with which no script is taken
abbrev pub EndsEarly : Status → Type 0
EndsEarly (status.BadLine line cause) = Unit {0}
EndsEarly status.SourceFault = Unit {0}
EndsEarly status.TooLarge = Unit {0}
EndsEarly status.NoMemory = Unit {0}
EndsEarly status.Ok = ⊥
EndsEarly status.Usage = ⊥
EndsEarly status.Key = ⊥
EndsEarly (status.Full line) = ⊥
EndsEarly status.SinkFault = ⊥
EndsEarly status.StoreFault = ⊥
EndsEarly (status.Damaged damage) = ⊥
EndsEarly status.Unfinished = ⊥
EndsEarly status.Exists = ⊥
EndsEarly (status.Unsound mismatch) = ⊥
