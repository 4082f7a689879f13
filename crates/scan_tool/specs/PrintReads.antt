-- How often what is printed of a range reads the store, over files that stand for a map. This project's own.
use Rattle.std.specs.Prelude.{ℕ, ◌+◌, ◌*◌, ◌≤◌, List, length, Option}
use Rattle.std.specs.FinMap as map
use Rattle.key_types.specs.Columns.{Columns}
use Rattle.key_types.specs.Table.{Entry, Table}
use Rattle.byte_comparable.specs.declared.strings.Side.TheVariants.{Before, After}
use Rattle.outside.specs.Files.{Files, bytes_of}
use Rattle.index_files.specs.declared.footer.FooterNumbers.{FooterNumbers}
use Rattle.table_files.specs.Names.{partitions_id}
use Rattle.table_files.specs.Standing.{StandFor}
use Rattle.table_reader.specs.declared.seek.BoundString.{BoundString}
use Rattle.table_reader.specs.Gets.{bytes_in}
use Rattle.table_reader.specs.Going.{IsNear}
use Rattle.table_reader.specs.Left.{HasLeft, IsBound, NamesSome, range_of}
use Rattle.table_reader.specs.NextReads.{HasBlockWithin, bound_length}
use Rattle.table_reader.specs.Opened.{HasFooter}
use Rattle.table_reader.specs.Ranges.{Scanning}
use Rattle.scan_tool.specs.Bounds.{NamesEnd}

-- over a Data.db
module _ (columns : Columns) (file : List ℕ) where
  -- a scan that is near gives what it gives in at most 64 reads, and is near again
  abbrev pub TurnsWithin : Scanning → Scanning → ℕ → ℕ → Type 0
  TurnsWithin scan scan' before after = IsNear columns file scan → IsNear columns file scan' × (after ≤ before + 64)

  -- a scan that is near and has some entries left gives each of them, and comes to its end, in at most 64 reads each
  abbrev pub EntriesWithin : Scanning → ℕ → ℕ → Type 0
  EntriesWithin scan before after = (left : List Entry) → HasLeft columns file scan left → IsNear columns file scan
      → after ≤ before + (64 * length left + 64)

module _ (files : Files) (generation : ℕ) (columns : Columns) where
  -- A range is printed, from the footer on, in at most as many reads as the bound from which it goes has bytes, counted
  -- as a scan's beginning counts them, and the separator of its block; in 64 for each entry; and in so many more.
  abbrev pub ReadsWithin : ℕ → Option BoundString → Option BoundString → ℕ → ℕ → Type 0
  ReadsWithin more from to before after = (table : Table) (footer : FooterNumbers) (most : ℕ)
      → StandFor files generation columns table → HasFooter columns (bytes_of files (partitions_id generation)) footer
      → HasBlockWithin (bytes_in columns files generation) footer from most
      → after ≤ before + (bound_length (bytes_in columns files generation) footer from + most
      + 64 * length (range_of from to (map.entries table)) + more)

  -- the same where the bounds are of the table
  abbrev pub RangeWithin : ℕ → Option BoundString → Option BoundString → ℕ → ℕ → Type 0
  RangeWithin more from to before after =
      IsBound columns from → NamesSome from → IsBound columns to → ReadsWithin more from to before after

  -- the same of the range whose bounds two texts name
  abbrev pub NamedWithin : ℕ → Option (List ℕ) → Option (List ℕ) → ℕ → ℕ → Type 0
  NamedWithin more from to before after = (lower upper : Option BoundString)
      → NamesEnd columns Before from lower → NamesEnd columns After to upper → ReadsWithin more lower upper before after

-- Over files that stand for a map, a range is printed in at most as many reads as the bound from which it goes and the
-- separator of its block have bytes, in 64 for each of its entries, and in 320 more.
abbrev pub PrintsWithin : Files → ℕ → Option (List ℕ) → Option (List ℕ) → ℕ → ℕ → Type 0
PrintsWithin files generation from to before after =
    (columns : Columns) → NamedWithin files generation columns 320 from to before after
