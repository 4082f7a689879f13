-- How `load` ends, what it leaves in the store, and what it writes. This project's own.
use Rattle.std.specs.Prelude.{◌≡◌, ◌⊎◌, ℕ, false, List, [], ◌++◌, length, codes, Option, Result, Ok, Err, IfSome, IsTrue}
use Rattle.std.specs.Fmt.{decimal}
use Rattle.outside.specs.Told.{WhereTold}
use Rattle.outside.specs.Files.{Files}
use Rattle.key_types.specs.Columns.{Columns}
use Rattle.key_types.specs.Table.{Entry}
use Rattle.data_file.specs.Listing.{Partition}
use Rattle.script_text.specs.Puts.{Put}
use Rattle.script_text.specs.declared.script.Script.{Script}
use Rattle.script_text.specs.declared.script.ScriptError.{ScriptError}
use Rattle.script_text.specs.declared.script.ScriptError.TheVariants as script_error
use Rattle.script_text.specs.Script.{script_of, puts_of}
use Rattle.script_run.specs.Legal.{IsLegalText}
use Rattle.script_run.specs.Runs.{HasRoom, IsFirstFull, IsLegalTo}
use Rattle.table_files.specs.Standing.{AreOfTable, StandFor, entries_in}
use Rattle.table_files.specs.There.{any_there}
use Rattle.flush_walk.specs.Entries.{row_count}
use Rattle.flush_walk.specs.Growing.{FourFiles, HaveBytes}
use Rattle.flush_walk.specs.Writing.{AddsFour, AreBegun, files_of_table}
use Rattle.table_tool.specs.declared.status.Status.{Status}
use Rattle.table_tool.specs.declared.status.Status.TheVariants as status
use Rattle.table_tool.specs.FaultLine.{fault_line}
use Rattle.table_tool.specs.First.{first_generation}
use Rattle.table_tool.specs.Rows.{rows_of, table_put}
use Rattle.table_tool.specs.Outcome.{AppendsPrefix, IsOrNoMemory, Says, WritesRefusal, ended}
use Rattle.table_tool.specs.Outside.{FaultRose, KeepsSource, Outside, SinkFails, SourceFails, StoreFails}

-- what is asked of `load`: the columns of its schema, the bounds between the shards, how many cells each shard has, and how many
-- readers there are
pub record LoadAsked : Type 0 where
  pub columns : Columns
  pub bounds : List (List ℕ)
  pub cells : ℕ
  pub readers : ℕ

-- ---- what is read

-- the script, or the status of its refusal
abbrev pub loading_of : Result Script ScriptError → Result Script Status
loading_of (Ok script) = Ok script
loading_of (Err (script_error.BadLine line cause)) = Err (status.BadLine line cause)
loading_of (Err script_error.TooLarge) = Err status.TooLarge
loading_of (Err script_error.NoMemory) = Err status.NoMemory

-- what `load` takes from the source's bytes
abbrev pub loading : LoadAsked → List ℕ → Result Script Status
loading asked bytes = loading_of (script_of asked.columns asked.readers bytes)

-- a status that comes of the script alone is the one that is expected
abbrev pub Refused : Result Script Status → Status → Type 0
Refused expected status.Ok = Unit {0}
Refused expected status.Usage = Unit {0}
Refused expected status.Key = Unit {0}
Refused expected (status.BadLine line cause) = expected ≡ Err (status.BadLine line cause)
Refused expected (status.Full line) = Unit {0}
Refused expected status.SourceFault = Unit {0}
Refused expected status.SinkFault = Unit {0}
Refused expected status.StoreFault = Unit {0}
Refused expected (status.Damaged damage) = Unit {0}
Refused expected status.Unfinished = Unit {0}
Refused expected status.Exists = Unit {0}
Refused expected status.TooLarge = expected ≡ Err status.TooLarge
Refused expected (status.Unsound mismatch) = Unit {0}
Refused expected status.NoMemory = Unit {0}

-- this line is the least of its batch for whose put a shard has no room
abbrev pub FillsShards : LoadAsked → Result Script Status → ℕ → Type 0
FillsShards asked expected line = (script : Script) × (expected ≡ Ok script) × IsFirstFull asked.cells asked.bounds script.batches line

-- each shard has room for its puts, where a script is expected
abbrev pub FitsShards : LoadAsked → Result Script Status → Type 0
FitsShards asked expected = (script : Script) → expected ≡ Ok script → HasRoom asked.cells asked.bounds (puts_of script.batches)

-- ---- what it leaves

-- the last line: how many puts, rows and partitions
abbrev pub ok_line : ℕ → ℕ → ℕ → List ℕ
ok_line puts rows partitions =
    codes "ok puts " ++ decimal puts ++ codes " rows " ++ decimal rows ++ codes " partitions " ++ decimal partitions ++ codes "\n"

-- the partitions are those of a table, and of these entries
pub record ArePartitionsOf (columns : Columns) (partitions : List Partition) (entries : List Entry) : Type 0 where
  pub table : AreOfTable columns partitions
  pub same : entries_in partitions ≡ entries

-- the four files of the puts were added, and nothing else changed; they stand for their rows, and this line has their numbers
pub record Loaded (columns : Columns) (puts : List Put) (files files' : Option Files) (line : List ℕ) : Type 0 where
  -- those of Data.db
  pub partitions : List Partition
  pub are : ArePartitionsOf columns partitions (rows_of puts)
  pub added : WhereTold files files' (AddsFour first_generation (files_of_table columns partitions))
  pub stand : IfSome files' (λ new. StandFor new first_generation columns (table_put puts))
  pub counts : line ≡ ok_line (length puts) (row_count columns (rows_of puts)) (length partitions)

-- the files are as they were after each refusal that comes before they are written
abbrev pub KeepsFiles : Status → Option Files → Option Files → Type 0
KeepsFiles status.Ok files files' = Unit {0}
KeepsFiles status.Usage files files' = files' ≡ files
KeepsFiles status.Key files files' = files' ≡ files
KeepsFiles (status.BadLine line cause) files files' = files' ≡ files
KeepsFiles (status.Full line) files files' = files' ≡ files
KeepsFiles status.SourceFault files files' = files' ≡ files
KeepsFiles status.SinkFault files files' = Unit {0}
KeepsFiles status.StoreFault files files' = Unit {0}
KeepsFiles (status.Damaged damage) files files' = files' ≡ files
KeepsFiles status.Unfinished files files' = files' ≡ files
KeepsFiles status.Exists files files' = files' ≡ files
KeepsFiles status.TooLarge files files' = files' ≡ files
KeepsFiles (status.Unsound mismatch) files files' = files' ≡ files
KeepsFiles status.NoMemory files files' = Unit {0}

-- each of the four files has a prefix of what it is to have, one that isn't there counting as an empty one, and Schema.txt has
-- bytes only where the others are whole; all other files are as they were
abbrev pub Begun : Columns → List Partition → Files → Files → Type 0
Begun columns partitions old new =
    (part : FourFiles) × AreBegun part (files_of_table columns partitions) × HaveBytes first_generation part old new

-- the store is as it was, or the files of what is expected were begun
abbrev pub ChangesFiles : Columns → Result Script Status → Files → Files → Type 0
ChangesFiles columns expected old new =
    (new ≡ old) ⊎ ((script : Script) × (partitions : List Partition) × (expected ≡ Ok script)
    × ArePartitionsOf columns partitions (rows_of (puts_of script.batches)) × Begun columns partitions old new)

-- ---- what it writes

-- a legal text of some first batches of the script that is expected
abbrev pub IsAnswered : LoadAsked → Result Script Status → List ℕ → Type 0
IsAnswered asked expected text =
    (script : Script) × (n : ℕ) × (expected ≡ Ok script) × IsLegalTo asked.columns asked.bounds script.batches n text

-- the files of the script that is expected were added, and a legal text of all its batches goes before their line
abbrev pub IsWhole : LoadAsked → Result Script Status → Option Files → Option Files → List ℕ → Type 0
IsWhole asked expected files files' whole =
    (script : Script) × (text : List ℕ) × (line : List ℕ) × (expected ≡ Ok script) × IsLegalText asked.columns asked.bounds script.batches text
    × Loaded asked.columns (puts_of script.batches) files files' line × (whole ≡ text ++ line)

-- nothing, or a legal text of all batches
abbrev pub IsNoneOrAll : LoadAsked → Result Script Status → List ℕ → Type 0
IsNoneOrAll asked expected text =
    (text ≡ []) ⊎ ((script : Script) × (expected ≡ Ok script) × IsLegalText asked.columns asked.bounds script.batches text)

-- What `load` has written. Ok: a legal text of all batches, and the line of the files. Where a shard was full: a legal text of the batches
-- before, and the fault line. Where the sink failed: a beginning of a legal text, of some first batches, or of all and the line. Where the
-- store failed: nothing, or a legal text of all batches, and the fault line. Without memory: nothing, or a legal text of some first batches.
abbrev pub WritesLoad : LoadAsked → Result Script Status → Option Files → Option Files → Status → ℕ → ℕ → List ℕ → List ℕ → Type 0
WritesLoad asked expected files files' status.Ok sink sink' before after =
    (whole : List ℕ) × IsWhole asked expected files files' whole × (after ≡ before ++ whole)
WritesLoad asked expected files files' status.Usage sink sink' before after = ⊥
WritesLoad asked expected files files' status.Key sink sink' before after = ⊥
WritesLoad asked expected files files' (status.BadLine line cause) sink sink' before after = Says (fault_line (status.BadLine line cause)) sink sink' before after
WritesLoad asked expected files files' (status.Full line) sink sink' before after =
    (text : List ℕ) × IsAnswered asked expected text × Says (fault_line (status.Full line)) sink sink' (before ++ text) after
WritesLoad asked expected files files' status.SourceFault sink sink' before after = Says (fault_line status.SourceFault) sink sink' before after
WritesLoad asked expected files files' status.SinkFault sink sink' before after =
    (text : List ℕ) × (IsAnswered asked expected text ⊎ IsWhole asked expected files files' text) × AppendsPrefix text before after
WritesLoad asked expected files files' status.StoreFault sink sink' before after =
    (text : List ℕ) × IsNoneOrAll asked expected text × Says (fault_line status.StoreFault) sink sink' (before ++ text) after
WritesLoad asked expected files files' (status.Damaged damage) sink sink' before after = ⊥
WritesLoad asked expected files files' status.Unfinished sink sink' before after = ⊥
WritesLoad asked expected files files' status.Exists sink sink' before after = Says (fault_line status.Exists) sink sink' before after
WritesLoad asked expected files files' status.TooLarge sink sink' before after = Says (fault_line status.TooLarge) sink sink' before after
WritesLoad asked expected files files' (status.Unsound mismatch) sink sink' before after = ⊥
WritesLoad asked expected files files' status.NoMemory sink sink' before after =
    (text : List ℕ) × ((text ≡ []) ⊎ IsAnswered asked expected text) × (after ≡ before ++ text)

-- ---- how it ends

-- where a file of the table is there, and a `size` may fail
abbrev pub IsExists : Status → Type 0
IsExists status.Exists = Unit {0}
IsExists status.StoreFault = Unit {0}
IsExists status.NoMemory = Unit {0}
IsExists result = ⊥

-- the statuses that `load` may end with
abbrev pub IsOfLoad : Status → Type 0
IsOfLoad status.Ok = Unit {0}
IsOfLoad status.Usage = ⊥
IsOfLoad status.Key = ⊥
IsOfLoad (status.BadLine line cause) = Unit {0}
IsOfLoad (status.Full line) = Unit {0}
IsOfLoad status.SourceFault = Unit {0}
IsOfLoad status.SinkFault = Unit {0}
IsOfLoad status.StoreFault = Unit {0}
IsOfLoad (status.Damaged damage) = ⊥
IsOfLoad status.Unfinished = ⊥
IsOfLoad status.Exists = Unit {0}
IsOfLoad status.TooLarge = Unit {0}
IsOfLoad (status.Unsound mismatch) = ⊥
IsOfLoad status.NoMemory = Unit {0}

-- the statuses of refusals that come before any batch is run
abbrev pub IsEarly : Status → Type 0
IsEarly status.Ok = ⊥
IsEarly status.Usage = ⊥
IsEarly status.Key = ⊥
IsEarly (status.BadLine line cause) = Unit {0}
IsEarly (status.Full line) = ⊥
IsEarly status.SourceFault = Unit {0}
IsEarly status.SinkFault = ⊥
IsEarly status.StoreFault = ⊥
IsEarly (status.Damaged damage) = ⊥
IsEarly status.Unfinished = ⊥
IsEarly status.Exists = Unit {0}
IsEarly status.TooLarge = Unit {0}
IsEarly (status.Unsound mismatch) = ⊥
IsEarly status.NoMemory = ⊥

-- How `load` ends, from what is asked of it.
pub record LoadEnds (asked : LoadAsked) (before after : Outside) (result : Status) : Type 0 where
  -- it ends with no other status, and with a fault only where the count of that object's faults rose
  pub possible : IsOfLoad result
  pub faults : FaultRose before after result
  -- Exists comes exactly where one of the four files is there, a fault of the store and want of memory aside; then nothing was read and nothing written
  pub exists_only : IfSome before.files (λ old. result ≡ status.Exists → IsTrue (any_there first_generation old))
  pub exists : IfSome before.files (λ old. IsTrue (any_there first_generation old) → IsExists result × (after.files ≡ before.files) × KeepsSource before after)
  pub unread : result ≡ status.Exists → KeepsSource before after
  -- BadLine and TooLarge come only as the script gives them
  pub refused : IfSome before.left (λ bytes. Refused (loading asked bytes) result)
  -- Full comes only where a shard has no room, at the least such line of its batch
  pub full : IfSome before.left (λ bytes. (line : ℕ) → result ≡ status.Full line → FillsShards asked (loading asked bytes) line)
  -- what was written: the answers to the gets are legal, and where it is Ok or the ok line was cut off the files stand
  pub written : IfSome before.left (λ bytes. WhereTold before.written after.written
      (WritesLoad asked (loading asked bytes) before.files after.files result before.sink_faults after.sink_faults))
  -- a refusal that comes before the batches has written its line and nothing else
  pub refusal : IsEarly result → WritesRefusal before after result
  -- at Ok the files stand, whether the sink tells what was written or not
  pub done : IfSome before.left (λ bytes. result ≡ status.Ok
      → (script : Script) × (line : List ℕ) × (loading asked bytes ≡ Ok script) × Loaded asked.columns (puts_of script.batches) before.files after.files line)
  -- completeness: where no file is there and no count of faults rose, it is Ok for a script that is accepted and for whose puts there is
  -- room, and else the status of its refusal
  pub complete : IfSome before.files (λ old. IfSome before.left (λ bytes. any_there first_generation old ≡ false
      → ¬ (SourceFails before after) → ¬ (SinkFails before after) → ¬ (StoreFails before after) → FitsShards asked (loading asked bytes)
      → IsOrNoMemory (ended (loading asked bytes)) result))
  -- the files are as they were after the refusals that come before they are written
  pub kept : KeepsFiles result before.files after.files
  -- and whatever the end, they are as they were, or the script is accepted, and a prefix of each of its files is there
  pub changes : IfSome before.left (λ bytes. WhereTold before.files after.files (ChangesFiles asked.columns (loading asked bytes)))

-- ---- the parts of `load`: only private contracts cite what follows

-- the statuses that end `load` before its line is printed
abbrev pub StopsLoad : Status → Type 0
StopsLoad status.Ok = ⊥
StopsLoad result = IsOfLoad result

-- the line of the files that were added, or the status that the script gives
abbrev pub LoadsOrRefuses : LoadAsked → Result (List ℕ) Status → Result Script Status → Option Files → Option Files → Type 0
LoadsOrRefuses asked (Ok line) expected files files' =
    (script : Script) × (expected ≡ Ok script) × Loaded asked.columns (puts_of script.batches) files files' line
LoadsOrRefuses asked (Err result) expected files files' = Refused expected result

-- what was written before the line, or before the fault line of the status
abbrev pub Answers : LoadAsked → Result (List ℕ) Status → Result Script Status → List ℕ → List ℕ → Type 0
Answers asked (Ok line) expected before after =
    (script : Script) × (text : List ℕ) × (expected ≡ Ok script) × IsLegalText asked.columns asked.bounds script.batches text × (after ≡ before ++ text)
Answers asked (Err status.SinkFault) expected before after = (text : List ℕ) × IsAnswered asked expected text × AppendsPrefix text before after
Answers asked (Err (status.Full line)) expected before after = (text : List ℕ) × IsAnswered asked expected text × (after ≡ before ++ text)
Answers asked (Err status.StoreFault) expected before after = (text : List ℕ) × IsNoneOrAll asked expected text × (after ≡ before ++ text)
Answers asked (Err status.NoMemory) expected before after = (text : List ℕ) × ((text ≡ []) ⊎ IsAnswered asked expected text) × (after ≡ before ++ text)
Answers asked (Err result) expected before after = after ≡ before
