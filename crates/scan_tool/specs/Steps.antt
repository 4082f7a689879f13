-- How the parts of a scan print: only private contracts cite it. This project's own.
use Rattle.std.specs.Prelude.{◌≡◌, ◌⊎◌, ℕ, ◌+◌, ◌<◌, ◌≤◌, Bool, true, false, List, [], ◌∷◌, ◌++◌, Option, Some, None, Result, Ok, Err, IfSome, ⊤}
use Rattle.key_types.specs.Columns.{Columns}
use Rattle.outside.specs.Files.{Files, bytes_of}
use Rattle.outside.specs.Told.{WhereTold}
use Rattle.flush_walk.specs.Entries.{row_count}
use Rattle.data_file.specs.declared.reading.DataError.TheVariants as data_error
use Rattle.row_text.specs.Lines.{HoldsText}
use Rattle.row_text.specs.Printed.{entry_line}
use Rattle.table_files.specs.Names.{data_id}
use Rattle.table_reader.specs.declared.walker.EntryStrings.{EntryStrings}
use Rattle.table_reader.specs.Ranges.{Gives, Scanning, entries_of, entry_of}
use Rattle.table_reader.specs.Scans.{IsInFile}
use Rattle.scan_tool.specs.declared.error.ScanError.{ScanError}
use Rattle.scan_tool.specs.declared.error.ScanError.TheVariants as scan_error
use Rattle.scan_tool.specs.declared.lines.Lines.{Lines}
use Rattle.scan_tool.specs.Given.{GivesEach, GivesSome, GivesUntil}
use Rattle.scan_tool.specs.Printing.{Appends, AppendsPrefix, Unwritten, lines_of, text_of}

-- ---- lines

-- no line was put
pub record Begun (lines : Lines) : Type 0 where
  pub text : lines.text ≡ []
  pub rows : lines.rows ≡ 0
  pub key : lines.key ≡ []

-- the line of an entry was put behind the others, and counted where it is a row
pub record PutsLine (columns : Columns) (entry : EntryStrings) (lines lines' : Lines) : Type 0 where
  pub text : lines'.text ≡ lines.text ++ entry_line columns (entry_of entry)
  pub rows : lines'.rows ≡ lines.rows + row_count columns (entry_of entry ∷ [])
  pub few : lines'.rows ≤ lines.rows + 1

-- a text was pushed, or nothing of it
abbrev pub IsPushed : List ℕ → List ℕ → Option (List ℕ) → Option (List ℕ) → Type 0
IsPushed text text' written written' =
    (piece : List ℕ) × (text ≡ piece ++ text') × WhereTold written written' (Appends piece)

-- the text was pushed before the error; or the sink failed
abbrev pub StopsWith : ScanError → ScanError → List ℕ → Option (List ℕ) → Option (List ℕ) → Type 0
StopsWith e result text written written' = ((result ≡ e) × WhereTold written written' (Appends text))
    ⊎ ((result ≡ scan_error.SinkFault) × WhereTold written written' (AppendsPrefix text))

-- how the last push ends: the text and the last line behind it, or a prefix of both; without memory nothing is pushed
abbrev pub EndsText : Result ⊤ ScanError → List ℕ → List ℕ → Option (List ℕ) → Option (List ℕ) → Type 0
EndsText (Ok x) text line written written' = WhereTold written written' (Appends (text ++ line))
EndsText (Err scan_error.SinkFault) text line written written' = WhereTold written written' (AppendsPrefix (text ++ line))
EndsText (Err scan_error.NoMemory) text line written written' = Unwritten written written'
EndsText (Err scan_error.Usage) text line written written' = ⊥
EndsText (Err scan_error.StoreFault) text line written written' = ⊥
EndsText (Err (scan_error.Damaged damage)) text line written written' = ⊥
EndsText (Err scan_error.Unfinished) text line written written' = ⊥

-- ---- turns

-- where the store tells its files, the scan gives this
abbrev pub IfGives : Columns → Option Files → ℕ → Scanning → Scanning → Option EntryStrings → Type 0
IfGives columns files generation scan scan' found =
    IfSome files (λ m. Gives columns (bytes_of m (data_id generation)) scan scan' (Ok found))

-- a scan gives an entry, whose line is put; or it is at its end; or it comes to damage, or an error comes
module _ (columns : Columns) (files : Option Files) (generation : ℕ) where
  abbrev pub TurnIs : Scanning → Scanning → Lines → Lines → Result Bool ScanError → Type 0
  TurnIs scan scan' lines lines' (Ok true) = (entry : EntryStrings) × IfGives columns files generation scan scan' (Some entry)
      × PutsLine columns entry lines lines' × IsInFile columns scan' × HoldsText columns.partition lines'.key lines'.partition
      × (scan.window.at < scan'.window.at) × (scan'.window.limit ≡ scan.window.limit)
  TurnIs scan scan' lines lines' (Ok false) = IfGives columns files generation scan scan' None × (lines' ≡ lines)
  TurnIs scan scan' lines lines' (Err (scan_error.Damaged damage)) =
      IfSome files (λ m. Gives columns (bytes_of m (data_id generation)) scan scan' (Err (data_error.Damaged damage)))
      × (lines' ≡ lines)
  TurnIs scan scan' lines lines' (Err scan_error.StoreFault) = lines' ≡ lines
  TurnIs scan scan' lines lines' (Err scan_error.NoMemory) = Unit {0}
  TurnIs scan scan' lines lines' (Err scan_error.SinkFault) = ⊥
  TurnIs scan scan' lines lines' (Err scan_error.Usage) = ⊥
  TurnIs scan scan' lines lines' (Err scan_error.Unfinished) = ⊥

  -- ---- all of them

  -- the lines of the entries were put; a part of them was pushed, and the rest is held
  pub record Holds (lines : Lines) (entries : List EntryStrings) (written written' : Option (List ℕ)) : Type 0 where
    pub pushed : List ℕ
    pub text : pushed ++ lines.text ≡ lines_of columns entries
    pub rows : lines.rows ≡ row_count columns (entries_of entries)
    pub told : WhereTold written written' (Appends pushed)

  -- the lines of some entries were put, of which a prefix was pushed
  abbrev pub PutsSome : Scanning → Option (List ℕ) → Option (List ℕ) → Type 0
  PutsSome scan written written' = (entries : List EntryStrings)
      × IfSome files (λ m. GivesSome columns (bytes_of m (data_id generation)) scan entries)
      × WhereTold written written' (AppendsPrefix (lines_of columns entries))

  -- how all turns end: the scan is at its end, or it comes to damage or an error
  abbrev pub PrintsEntries : Scanning → Lines → Option (List ℕ) → Option (List ℕ) → Result ⊤ ScanError → Type 0
  PrintsEntries scan lines written written' (Ok x) = (entries : List EntryStrings)
      × IfSome files (λ m. GivesEach columns (bytes_of m (data_id generation)) scan entries)
      × Holds lines entries written written'
  PrintsEntries scan lines written written' (Err (scan_error.Damaged damage)) = (entries : List EntryStrings)
      × IfSome files (λ m. GivesUntil columns (bytes_of m (data_id generation)) damage scan entries)
      × Holds lines entries written written'
  PrintsEntries scan lines written written' (Err scan_error.StoreFault) = (entries : List EntryStrings)
      × IfSome files (λ m. GivesSome columns (bytes_of m (data_id generation)) scan entries)
      × Holds lines entries written written'
  PrintsEntries scan lines written written' (Err scan_error.SinkFault) = PutsSome scan written written'
  PrintsEntries scan lines written written' (Err scan_error.NoMemory) = PutsSome scan written written'
  PrintsEntries scan lines written written' (Err scan_error.Usage) = ⊥
  PrintsEntries scan lines written written' (Err scan_error.Unfinished) = ⊥

  -- a prefix of the whole text of a scan
  abbrev pub PutsMost : Scanning → Option (List ℕ) → Option (List ℕ) → Type 0
  PutsMost scan written written' = (entries : List EntryStrings)
      × IfSome files (λ m. GivesEach columns (bytes_of m (data_id generation)) scan entries)
      × WhereTold written written' (AppendsPrefix (text_of columns entries))

  -- what is printed of a scan, up to its last line
  abbrev pub PrintsFrom : Scanning → Option (List ℕ) → Option (List ℕ) → Result ⊤ ScanError → Type 0
  PrintsFrom scan written written' (Ok x) = (entries : List EntryStrings)
      × IfSome files (λ m. GivesEach columns (bytes_of m (data_id generation)) scan entries)
      × WhereTold written written' (Appends (text_of columns entries))
  PrintsFrom scan written written' (Err (scan_error.Damaged damage)) = (entries : List EntryStrings)
      × IfSome files (λ m. GivesUntil columns (bytes_of m (data_id generation)) damage scan entries)
      × WhereTold written written' (Appends (lines_of columns entries))
  PrintsFrom scan written written' (Err scan_error.StoreFault) = (entries : List EntryStrings)
      × IfSome files (λ m. GivesSome columns (bytes_of m (data_id generation)) scan entries)
      × WhereTold written written' (Appends (lines_of columns entries))
  PrintsFrom scan written written' (Err scan_error.SinkFault) = PutsSome scan written written' ⊎ PutsMost scan written written'
  PrintsFrom scan written written' (Err scan_error.NoMemory) = PutsSome scan written written'
  PrintsFrom scan written written' (Err scan_error.Usage) = ⊥
  PrintsFrom scan written written' (Err scan_error.Unfinished) = ⊥
