-- What two runs, one behind the other, come to.
use Rattle.std.specs.Prelude.{◌≡◌, ℕ, List, ◌++◌, Option, Some}
use Rattle.std.specs.declared.string.String.{String}
use Rattle.std.specs.declared.alloc.Global.{Global}
use Rattle.std.specs.FinMap as map
use Rattle.outside.specs.Files.{Files, bytes_of}
use Rattle.outside.specs.Told.{WhereTold}
use Rattle.key_types.specs.Columns.{Columns}
use Rattle.key_types.specs.Table.{Table}
use Rattle.script_text.specs.Lines.{lines_of}
use Rattle.script_text.specs.Meaning.{AreAcceptedLines}
use Rattle.script_text.specs.Script.{batches_of, puts_of}
use Rattle.script_text.specs.Spelled.{Line}
use Rattle.table_files.specs.Names.{data_id, schema_id}
use Rattle.table_files.specs.SchemaFile.{IsSchemaFile}
use Rattle.table_files.specs.Standing.{Holds}
use Rattle.table_reader.specs.Laws.{string_of_key}
use Rattle.byte_comparable.specs.declared.strings.Side.TheVariants.{Before, After}
use Rattle.table_reader.specs.declared.seek.BoundString.{BoundString}
use Rattle.table_reader.specs.Left.{range_of}
use Rattle.scan_tool.specs.Bounds.{NamesEnd}
use Rattle.get_tool.specs.declared.asked.AskedKey.{AskedKey}
use Rattle.get_tool.specs.Asked.{NamesKey}
use Rattle.get_tool.specs.Shown.{found_line}
use Rattle.script_run.specs.Legal.{IsLegalText}
use Rattle.table_tool.specs.Loading.{LoadAsked}
use Rattle.table_tool.specs.declared.status.Status.{Status}
use Rattle.table_tool.specs.declared.status.Status.TheVariants as status
use Rattle.table_tool.specs.Outside.{Outside, SinkFails, StoreFails}
use Rattle.table_tool.specs.Outcome.{IsOrNoMemory}
use Rattle.row_text.specs.Printed.{IsTableText, rows_text}
use Rattle.table_tool.specs.First.{first_generation}
use Rattle.table_tool.specs.Request.{AskCheck, AskGet, AskLoad, AskScan}
use Rattle.table_tool.specs.Rows.{rows_of, table_put}
use Rattle.table_tool.specs.Run.{RunEnds}

-- The lines of these bytes are those of a script under these columns, for so many readers. A run that was Ok printed exactly the lines of
-- those rows and static values of the sorted map of all their puts that lie between two bounds, each there or not, and how many rows they are.
pub record PrintsAllPuts (columns : Columns) (readers : ℕ) (bytes : List ℕ) (lower upper : Option BoundString) (before after : Outside) (result : Status) : Type 0 where
  pub lines : List Line
  pub accepted : AreAcceptedLines columns readers 1 0 (lines_of bytes) lines
  pub printed : result ≡ status.Ok → WhereTold before.written after.written (λ old new.
      (text : List ℕ) × IsTableText columns (range_of lower upper (rows_of (puts_of (batches_of lines)))) text × (new ≡ old ++ text))
  -- where neither store nor sink failed, it was Ok, want of memory aside
  pub complete : ¬ (StoreFails before after) → ¬ (SinkFails before after) → IsOrNoMemory status.Ok result

-- The lines of these bytes are those of a script, and what was printed begins with a legal text of its gets.
pub record AnswersAllGets (asked : LoadAsked) (bytes : List ℕ) (before after : Outside) : Type 0 where
  pub lines : List Line
  pub accepted : AreAcceptedLines asked.columns asked.readers 1 0 (lines_of bytes) lines
  pub printed : WhereTold before.written after.written (λ old new. (text : List ℕ) × (last : List ℕ)
      × IsLegalText asked.columns asked.bounds (batches_of lines) text × (new ≡ old ++ (text ++ last)))

-- Where `load` of a source's bytes ended Ok, each get of its script was answered by its key's value after a number of its shard's puts that is
-- printed with it, never fewer than its reader had seen there or than earlier batches made.
abbrev pub HeadlineOfReads : Type 0
HeadlineOfReads = (words : List (String Global)) (asked : LoadAsked) (bytes : List ℕ) (before after : Outside)
    → AskLoad words asked → before.left ≡ Some bytes → RunEnds words before after status.Ok → AnswersAllGets asked bytes before after

-- And over a store that tells its files, a `scan` over the files that it left prints the sorted map of all puts, between the bounds that its texts
-- name.
abbrev pub HeadlineOfFiles : Type 0
HeadlineOfFiles = (words words' : List (String Global)) (asked : LoadAsked) (bytes : List ℕ) (files : Files)
    (from to : Option (List ℕ)) (lower upper : Option BoundString) (before between between' after : Outside) (result : Status)
    → AskLoad words asked → AskScan words' from to → NamesEnd asked.columns Before from lower → NamesEnd asked.columns After to upper
    → before.left ≡ Some bytes → between.files ≡ Some files → between'.files ≡ Some files
    → RunEnds words before between status.Ok → RunEnds words' between' after result
    → PrintsAllPuts asked.columns asked.readers bytes lower upper between' after result

-- The lines of these bytes are those of a script under these columns, for so many readers. A run that was Ok printed the value that the sorted map
-- of all their puts has at the key, or `none`.
pub record PrintsValue (columns : Columns) (readers : ℕ) (bytes : List ℕ) (key : AskedKey) (before after : Outside) (result : Status) : Type 0 where
  pub lines : List Line
  pub accepted : AreAcceptedLines columns readers 1 0 (lines_of bytes) lines
  pub printed : result ≡ status.Ok → WhereTold before.written after.written (λ old new. new ≡ old
      ++ found_line columns key.clustering (map.get (table_put (puts_of (batches_of lines))) (string_of_key key.partition key.clustering)))
  -- where neither store nor sink failed, it was Ok, want of memory aside
  pub complete : ¬ (StoreFails before after) → ¬ (SinkFails before after) → IsOrNoMemory status.Ok result

-- And a `get` over these files prints the value that this map has at the key which its text names.
abbrev pub HeadlineOfGets : Type 0
HeadlineOfGets = (words words' : List (String Global)) (asked : LoadAsked) (bytes : List ℕ) (files : Files) (text : List ℕ) (key : AskedKey)
    (before between between' after : Outside) (result : Status)
    → AskLoad words asked → AskGet words' text → NamesKey asked.columns text key → before.left ≡ Some bytes → between.files ≡ Some files → between'.files ≡ Some files
    → RunEnds words before between status.Ok → RunEnds words' between' after result → PrintsValue asked.columns asked.readers bytes key between' after result

-- ---- over any files that `check` found sound

-- A run that was Ok printed the value that a map has at the key, or `none`.
pub record PrintsValueOf (columns : Columns) (table : Table) (key : AskedKey) (before after : Outside) (result : Status) : Type 0 where
  pub printed : result ≡ status.Ok → WhereTold before.written after.written (λ old new. new ≡ old
      ++ found_line columns key.clustering (map.get table (string_of_key key.partition key.clustering)))
  -- where neither store nor sink failed, it was Ok, want of memory aside
  pub complete : ¬ (StoreFails before after) → ¬ (SinkFails before after) → IsOrNoMemory status.Ok result

-- A run that was Ok printed the lines of the entries of a map between two bounds, each there or not, and how many of them are rows.
pub record PrintsRangeOf (columns : Columns) (table : Table) (lower upper : Option BoundString) (before after : Outside) (result : Status) : Type 0 where
  pub printed : result ≡ status.Ok → WhereTold before.written after.written (λ old new. new ≡ old
      ++ rows_text columns (range_of lower upper (map.entries table)))
  -- where neither store nor sink failed, it was Ok, want of memory aside
  pub complete : ¬ (StoreFails before after) → ¬ (SinkFails before after) → IsOrNoMemory status.Ok result

-- Data.db lists the entries of a map under the columns of Schema.txt, and over these files each `get` prints the value that this map has at the
-- key which its text names, and each `scan` the map between the bounds that its texts name.
pub record AgreeWithData (files : Files) : Type 0 where
  pub columns : Columns
  pub table : Table
  pub schema : IsSchemaFile columns (bytes_of files (schema_id first_generation))
  pub listed : Holds columns (bytes_of files (data_id first_generation)) (map.entries table)
  pub gets : (words : List (String Global)) (text : List ℕ) (key : AskedKey) (before after : Outside) (result : Status)
      → AskGet words text → NamesKey columns text key → before.files ≡ Some files → RunEnds words before after result
      → PrintsValueOf columns table key before after result
  pub scans : (words : List (String Global)) (from to : Option (List ℕ)) (lower upper : Option BoundString) (before after : Outside) (result : Status)
      → AskScan words from to → NamesEnd columns Before from lower → NamesEnd columns After to upper → before.files ≡ Some files
      → RunEnds words before after result → PrintsRangeOf columns table lower upper before after result

-- Where `check` of a store's files ended Ok, every `get` and every `scan` over them prints what the map that Data.db lists holds.
abbrev pub HeadlineOfChecks : Type 0
HeadlineOfChecks = (words : List (String Global)) (files : Files) (before after : Outside)
    → AskCheck words → before.files ≡ Some files → RunEnds words before after status.Ok → AgreeWithData files
