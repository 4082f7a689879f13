-- How a run ends: the whole promise of the top calls. This project's own.
use Rattle.std.specs.Prelude.{◌≡◌, ◌⊎◌, ℕ, List, Option}
use Rattle.std.specs.declared.string.String.{String}
use Rattle.std.specs.declared.alloc.Global.{Global}
use Rattle.key_types.specs.Columns.{Columns}
use Rattle.key_types.specs.Kinds.{Kinds}
use Rattle.key_tool.specs.declared.request.KeyWay.{KeyWay}
use Rattle.table_tool.specs.declared.status.Status.{Status}
use Rattle.table_tool.specs.declared.status.Status.TheVariants as status
use Rattle.table_tool.specs.Request.{AreRefused, AskCheck, AskGen, AskGet, AskKey, AskList, AskLoad, AskPrint, AskScan, AskSome}
use Rattle.table_tool.specs.Outcome.{UsageEnds}
use Rattle.table_tool.specs.Outside.{FaultRose, Outside}
use Rattle.table_tool.specs.Listing.{ListEnds}
use Rattle.table_tool.specs.Loading.{LoadAsked, LoadEnds}
use Rattle.table_tool.specs.Scanning.{ScanEnds}
use Rattle.table_tool.specs.Checking.{CheckEnds}
use Rattle.table_tool.specs.Keys.{KeyEnds}
use Rattle.table_tool.specs.Getting.{GetEnds}
use Rattle.table_tool.specs.Generating.{GenEnds, PrintEnds, script_bytes}
use Rattle.table_tool.specs.declared.request.GeneratedScript.{GeneratedScript}

-- From the words behind the program's name: what stands outside before the run and after it, and the status.
pub record RunEnds (words : List (String Global)) (before after : Outside) (result : Status) : Type 0 where
  -- whatever the words, a fault comes only where the count of that object's faults rose
  pub faults : FaultRose before after result
  -- the words are refused by themselves, or they ask for a command, want of memory aside: so one of the fields below has its say
  pub decided : (result ≡ status.NoMemory) ⊎ (AreRefused words ⊎ AskSome words)
  -- refused words end in Usage
  pub refused : AreRefused words → UsageEnds before after result
  -- `list` prints the rows and static values of the sorted map of all puts
  pub list : (columns : Columns) (cells : ℕ) → AskList words columns cells → ListEnds columns cells before after result
  -- `load` answers the gets, and leaves files that stand for the sorted map of all puts
  pub load : (asked : LoadAsked) → AskLoad words asked → LoadEnds asked before after result
  -- `get` prints the value that the map for which the files stand has at a key
  pub get : (text : List ℕ) → AskGet words text → GetEnds text before after result
  -- `scan` prints the rows and static values of that map
  pub scan : (from to : Option (List ℕ)) → AskScan words from to → ScanEnds from to before after result
  -- `check` says whether the files stand for a map, and how many partitions and rows they hold
  pub check : AskCheck words → CheckEnds before after result
  -- `key` shows the string of components, or the components of a string
  pub key : (kinds : Kinds) (way : KeyWay) (text : List ℕ) → AskKey words kinds way text → KeyEnds kinds way text before after result
  -- `gen --print` prints a generated script
  pub print : (script : GeneratedScript) → AskPrint words script → PrintEnds script before after result
  -- `gen` without it does what `load` does of that script, and prints the last line alone
  pub gen : (script : GeneratedScript) (asked : LoadAsked) → AskGen words script asked → GenEnds (script_bytes script) asked before after result
