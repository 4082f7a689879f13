-- What is printed of a range over the files of a generation. Where the store tells its files, the entries are those
-- that a scan gives; where the sink tells what is written, it is their text. This project's own.
use Rattle.std.specs.Prelude.{◌≡◌, ◌⊎◌, ℕ, ◌≤◌, List, ◌++◌, length, take, Option, Result, Ok, Err, IfSome, ⊤}
use Rattle.key_types.specs.Columns.{Columns}
use Rattle.outside.specs.Files.{Files, bytes_of}
use Rattle.outside.specs.Told.{WhereTold}
use Rattle.byte_comparable.specs.declared.strings.Side.TheVariants.{Before, After}
use Rattle.row_text.specs.Printed.{entry_lines, rows_text}
use Rattle.table_files.specs.Names.{schema_id}
use Rattle.table_files.specs.SchemaFile.{IsSchemaFile, IsWholeSchemaFile}
use Rattle.table_reader.specs.declared.seek.BoundString.{BoundString}
use Rattle.table_reader.specs.declared.walker.EntryStrings.{EntryStrings}
use Rattle.table_reader.specs.Ranges.{entries_of}
use Rattle.scan_tool.specs.declared.error.ScanError.{ScanError}
use Rattle.scan_tool.specs.declared.error.ScanError.TheVariants as scan_error
use Rattle.scan_tool.specs.Bounds.{NamesEnd, NamesNoRange}
use Rattle.scan_tool.specs.Given.{HasEach, HasSome, HasUntil}

-- ---- what is written

abbrev pub Appends : List ℕ → List ℕ → List ℕ → Type 0
Appends text before after = after ≡ before ++ text

abbrev pub AppendsPrefix : List ℕ → List ℕ → List ℕ → Type 0
AppendsPrefix text before after = (count : ℕ) × (count ≤ length text) × (after ≡ before ++ take count text)

-- nothing was written
abbrev pub Unwritten : Option (List ℕ) → Option (List ℕ) → Type 0
Unwritten written written' = WhereTold written written' (λ before after. after ≡ before)

-- the lines of entries by their strings
abbrev pub lines_of : Columns → List EntryStrings → List ℕ
lines_of columns entries = entry_lines columns (entries_of entries)

-- the same with the last line, which counts the rows
abbrev pub text_of : Columns → List EntryStrings → List ℕ
text_of columns entries = rows_text columns (entries_of entries)

-- ---- between two bounds

module _ (columns : Columns) (files : Option Files) (generation : ℕ) where
  -- the lines of some entries of the range, or a prefix of them
  abbrev pub PrintsSome : Option BoundString → Option BoundString → Option (List ℕ) → Option (List ℕ) → Type 0
  PrintsSome from to written written' = (entries : List EntryStrings)
      × IfSome files (λ m. HasSome columns m generation from to entries)
      × WhereTold written written' (AppendsPrefix (lines_of columns entries))

  -- a prefix of the whole text
  abbrev pub PrintsMost : Option BoundString → Option BoundString → Option (List ℕ) → Option (List ℕ) → Type 0
  PrintsMost from to written written' = (entries : List EntryStrings)
      × IfSome files (λ m. HasEach columns m generation from to entries)
      × WhereTold written written' (AppendsPrefix (text_of columns entries))

  -- Ok has printed the entries of the range and how many rows there are; damage and a fault of the store the entries
  -- before them; a fault of the sink and want of memory a prefix of that.
  abbrev pub Prints :
      Option BoundString → Option BoundString → Option (List ℕ) → Option (List ℕ) → Result ⊤ ScanError → Type 0
  Prints from to written written' (Ok x) = (entries : List EntryStrings)
      × IfSome files (λ m. HasEach columns m generation from to entries)
      × WhereTold written written' (Appends (text_of columns entries))
  Prints from to written written' (Err (scan_error.Damaged damage)) = (entries : List EntryStrings)
      × IfSome files (λ m. HasUntil columns m generation from to damage entries)
      × WhereTold written written' (Appends (lines_of columns entries))
  Prints from to written written' (Err scan_error.StoreFault) = (entries : List EntryStrings)
      × IfSome files (λ m. HasSome columns m generation from to entries)
      × WhereTold written written' (Appends (lines_of columns entries))
  Prints from to written written' (Err scan_error.SinkFault) =
      PrintsSome from to written written' ⊎ PrintsMost from to written written'
  Prints from to written written' (Err scan_error.NoMemory) = PrintsSome from to written written'
  Prints from to written written' (Err scan_error.Usage) = ⊥
  Prints from to written written' (Err scan_error.Unfinished) = ⊥

  -- the texts name two bounds, between which this is printed
  abbrev pub PrintsNamed :
      Option (List ℕ) → Option (List ℕ) → Option (List ℕ) → Option (List ℕ) → Result ⊤ ScanError → Type 0
  PrintsNamed from to written written' result = (lower upper : Option BoundString)
      × NamesEnd columns Before from lower × NamesEnd columns After to upper × Prints lower upper written written' result

  -- or one of them names none, and nothing is printed; memory may run out while they are read
  abbrev pub PrintsIn :
      Option (List ℕ) → Option (List ℕ) → Option (List ℕ) → Option (List ℕ) → Result ⊤ ScanError → Type 0
  PrintsIn from to written written' (Ok x) = PrintsNamed from to written written' (Ok x)
  PrintsIn from to written written' (Err (scan_error.Damaged damage)) =
      PrintsNamed from to written written' (Err (scan_error.Damaged damage))
  PrintsIn from to written written' (Err scan_error.StoreFault) =
      PrintsNamed from to written written' (Err scan_error.StoreFault)
  PrintsIn from to written written' (Err scan_error.SinkFault) =
      PrintsNamed from to written written' (Err scan_error.SinkFault)
  PrintsIn from to written written' (Err scan_error.NoMemory) =
      Unwritten written written' ⊎ PrintsNamed from to written written' (Err scan_error.NoMemory)
  PrintsIn from to written written' (Err scan_error.Usage) = NamesNoRange columns from to × Unwritten written written'
  PrintsIn from to written written' (Err scan_error.Unfinished) = ⊥

-- ---- over the files of a generation

module _ (files : Option Files) (generation : ℕ) where
  -- the same under the columns of the schema's file
  abbrev pub PrintsUnder :
      Option (List ℕ) → Option (List ℕ) → Option (List ℕ) → Option (List ℕ) → Result ⊤ ScanError → Type 0
  PrintsUnder from to written written' result = (columns : Columns)
      × IfSome files (λ m. IsSchemaFile columns (bytes_of m (schema_id generation)))
      × PrintsIn columns files generation from to written written' result

  -- What is printed between the bounds of two texts; nothing where the schema's file isn't whole, or isn't read.
  abbrev pub PrintsRange :
      Option (List ℕ) → Option (List ℕ) → Option (List ℕ) → Option (List ℕ) → Result ⊤ ScanError → Type 0
  PrintsRange from to written written' (Ok x) = PrintsUnder from to written written' (Ok x)
  PrintsRange from to written written' (Err (scan_error.Damaged damage)) =
      PrintsUnder from to written written' (Err (scan_error.Damaged damage))
  PrintsRange from to written written' (Err scan_error.SinkFault) =
      PrintsUnder from to written written' (Err scan_error.SinkFault)
  PrintsRange from to written written' (Err scan_error.Usage) =
      PrintsUnder from to written written' (Err scan_error.Usage)
  PrintsRange from to written written' (Err scan_error.StoreFault) =
      Unwritten written written' ⊎ PrintsUnder from to written written' (Err scan_error.StoreFault)
  PrintsRange from to written written' (Err scan_error.NoMemory) =
      Unwritten written written' ⊎ PrintsUnder from to written written' (Err scan_error.NoMemory)
  PrintsRange from to written written' (Err scan_error.Unfinished) =
      IfSome files (λ m. ¬ (IsWholeSchemaFile (bytes_of m (schema_id generation)))) × Unwritten written written'
