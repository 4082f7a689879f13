-- The entries that a scan gives, one behind the other, and where it ends. This project's own.
use Rattle.std.specs.Prelude.{◌≡◌, ◌⊎◌, ℕ, List, [], ◌∷◌, length, Option, None, Some, Result, Ok, Err}
use Rattle.bti_nodes.specs.declared.damage.Cause.TheVariants.{BadFooter}
use Rattle.bti_nodes.specs.declared.damage.Damage.{Damage}
use Rattle.data_file.specs.declared.reading.DataError.TheVariants as data_error
use Rattle.index_files.specs.declared.footer.FooterNumbers.{FooterNumbers}
use Rattle.index_files.specs.Footers.{NoFooter}
use Rattle.index_files.specs.Reading.{file_damage, footer_place}
use Rattle.key_types.specs.Columns.{Columns}
use Rattle.outside.specs.Files.{Files, bytes_of}
use Rattle.outside.specs.declared.store.Part.TheVariants.{Partitions}
use Rattle.table_files.specs.Names.{data_id, partitions_id}
use Rattle.table_reader.specs.declared.fault.TableFault.{TableFault}
use Rattle.table_reader.specs.declared.fault.TableFault.TheVariants as table_fault
use Rattle.table_reader.specs.declared.seek.BoundString.{BoundString}
use Rattle.table_reader.specs.declared.walker.EntryStrings.{EntryStrings}
use Rattle.table_reader.specs.Gets.{bytes_in}
use Rattle.table_reader.specs.Opened.{HasFooter}
use Rattle.table_reader.specs.Ranges.{Gives, Scanning}
use Rattle.table_reader.specs.Scans.{Scans}

-- over a Data.db
module _ (columns : Columns) (file : List ℕ) where
  -- from one place to another a scan gives these entries, one behind the other
  abbrev pub GivesAll : Scanning → List EntryStrings → Scanning → Type 0
  GivesAll scan [] scan' = scan ≡ scan'
  GivesAll scan (entry ∷ entries) scan' =
      (mid : Scanning) × Gives columns file scan mid (Ok (Some entry)) × GivesAll mid entries scan'

  -- it gives these, and perhaps more
  abbrev pub GivesSome : Scanning → List EntryStrings → Type 0
  GivesSome scan entries = (last : Scanning) × GivesAll scan entries last

  -- it gives these, and is at the end of its range
  abbrev pub GivesEach : Scanning → List EntryStrings → Type 0
  GivesEach scan entries =
      (last end_ : Scanning) × GivesAll scan entries last × Gives columns file last end_ (Ok None)

  -- it gives these, and comes to damage
  abbrev pub GivesUntil : Damage → Scanning → List EntryStrings → Type 0
  GivesUntil damage scan entries =
      (last end_ : Scanning) × GivesAll scan entries last
      × Gives columns file last end_ (Err (data_error.Damaged damage))

-- over the files of a generation, between two bounds
module _ (columns : Columns) (files : Files) (generation : ℕ) (from to : Option BoundString) where
  -- behind the footer of the partition index a scan begins so
  abbrev pub Begins : Result Scanning TableFault → Type 0
  Begins result = (footer : FooterNumbers) × HasFooter columns (bytes_of files (partitions_id generation)) footer
      × Scans (bytes_in columns files generation) footer from to result

  -- these entries were given so far, or none as no scan was begun
  abbrev pub HasSome : List EntryStrings → Type 0
  HasSome entries = (entries ≡ [])
      ⊎ ((first : Scanning) × Begins (Ok first) × GivesSome columns (bytes_of files (data_id generation)) first entries)

  -- these are the entries of the range
  abbrev pub HasEach : List EntryStrings → Type 0
  HasEach entries = (first : Scanning) × Begins (Ok first) × GivesEach columns (bytes_of files (data_id generation)) first entries

  -- these were given before damage: of the partition index, which has no footer; where the scan should begin; or of
  -- Data.db
  abbrev pub HasUntil : Damage → List EntryStrings → Type 0
  HasUntil damage entries =
      ((entries ≡ []) × NoFooter columns (bytes_of files (partitions_id generation))
      × (damage ≡ file_damage Partitions (footer_place (length (bytes_of files (partitions_id generation)))) BadFooter))
      ⊎ ((entries ≡ []) × Begins (Err (table_fault.Damaged damage)))
      ⊎ ((first : Scanning) × Begins (Ok first) × GivesUntil columns (bytes_of files (data_id generation)) damage first entries)
