-- Bounds as typed keys, and what is printed of files that stand for a map.
use Rattle.std.specs.Prelude.{◌≡◌, ◌⊎◌, ◌↔◌, ℕ, ◌≤◌, true, List, ◌++◌, length, Option, Some, Result, Ok, Err, IfSome, ⊤}
use Rattle.std.specs.FinMap as map
use Rattle.key_types.specs.Columns.{Columns}
use Rattle.key_types.specs.Table.{Entry, Table}
use Rattle.byte_comparable.specs.declared.strings.Side.TheVariants.{Before, After}
use Rattle.byte_comparable.specs.Order.{IsNotAbove, IsNotBelow, Key, KeyFits, string_of_key}
use Rattle.outside.specs.Files.{Files}
use Rattle.outside.specs.Told.{WhereTold}
use Rattle.row_text.specs.Printed.{entry_lines, rows_text}
use Rattle.table_files.specs.Standing.{StandFor}
use Rattle.table_reader.specs.declared.seek.BoundString.{BoundString}
use Rattle.table_reader.specs.Left.{is_from, is_up_to, range_of}
use Rattle.scan_tool.specs.declared.error.ScanError.{ScanError}
use Rattle.scan_tool.specs.declared.error.ScanError.TheVariants as scan_error
use Rattle.scan_tool.specs.Bounds.{NamesBound, NamesEnd, NamesNoRange}
use Rattle.scan_tool.specs.Printing.{Appends, AppendsPrefix, PrintsRange, Unwritten}

-- ---- bounds

-- A key isn't below the lower bound that a text names exactly where its string isn't below that of the bound.
abbrev pub LowerBounds : Type 0
LowerBounds =
    (columns : Columns) (text : List ℕ) (bound : BoundString) (key : Key) (named : NamesBound columns Before text bound)
    → KeyFits columns.partition columns.clustering key
    → IsNotBelow columns.partition columns.clustering key.partition key.clustering named.partition named.clustering
    ↔ (is_from (Some bound) (string_of_key columns.partition columns.clustering key) ≡ true)

-- It isn't above the upper bound that a text names exactly where its string isn't above that of the bound.
abbrev pub UpperBounds : Type 0
UpperBounds =
    (columns : Columns) (text : List ℕ) (bound : BoundString) (key : Key) (named : NamesBound columns After text bound)
    → KeyFits columns.partition columns.clustering key
    → IsNotAbove columns.partition columns.clustering key.partition key.clustering named.partition named.clustering
    ↔ (is_up_to (Some bound) (string_of_key columns.partition columns.clustering key) ≡ true)

-- ---- files that stand for a map

module _ (columns : Columns) (table : Table) where
  -- the texts name two bounds, and of the entries between them this is so
  abbrev pub OfRange : Option (List ℕ) → Option (List ℕ) → (List Entry → Type 0) → Type 0
  OfRange from to Is = (lower upper : Option BoundString) × NamesEnd columns Before from lower × NamesEnd columns After to upper
      × Is (range_of lower upper (map.entries table))

  -- the lines of the first of some entries were printed
  abbrev pub PrintsFirst : Option (List ℕ) → Option (List ℕ) → List Entry → Type 0
  PrintsFirst written written' entries = (front rest : List Entry) × (entries ≡ front ++ rest)
      × WhereTold written written' (Appends (entry_lines columns front))

  -- a prefix of the whole text of the entries was printed
  abbrev pub PrintsPrefix : Option (List ℕ) → Option (List ℕ) → List Entry → Type 0
  PrintsPrefix written written' entries = WhereTold written written' (AppendsPrefix (rows_text columns entries))

  -- What is printed of the map: the whole text of the entries in the range at Ok, and its first lines before a fault
  -- of the store; a prefix of it where the sink failed or memory ran out; nothing where a text names no bound. There
  -- is no damage, and no file that isn't whole.
  abbrev pub PrintsOf :
      Option (List ℕ) → Option (List ℕ) → Option (List ℕ) → Option (List ℕ) → Result ⊤ ScanError → Type 0
  PrintsOf from to written written' (Ok x) =
      OfRange from to (λ entries. WhereTold written written' (Appends (rows_text columns entries)))
  PrintsOf from to written written' (Err scan_error.StoreFault) =
      Unwritten written written' ⊎ OfRange from to (PrintsFirst written written')
  PrintsOf from to written written' (Err scan_error.SinkFault) = OfRange from to (PrintsPrefix written written')
  PrintsOf from to written written' (Err scan_error.NoMemory) =
      Unwritten written written' ⊎ OfRange from to (PrintsPrefix written written')
  PrintsOf from to written written' (Err scan_error.Usage) = NamesNoRange columns from to × Unwritten written written'
  PrintsOf from to written written' (Err (scan_error.Damaged damage)) = ⊥
  PrintsOf from to written written' (Err scan_error.Unfinished) = ⊥

-- over files that stand for a map this is what is printed
abbrev pub PrintsMap : Type 0
PrintsMap =
    (files : Files) (generation : ℕ) (columns : Columns) (table : Table) (from to written written' : Option (List ℕ))
    (result : Result ⊤ ScanError)
    → StandFor files generation columns table → PrintsRange (Some files) generation from to written written' result
    → PrintsOf columns table from to written written' result
