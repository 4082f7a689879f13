-- A table that was opened, and what it holds of its files.
use Rattle.std.specs.Prelude.{◌≡◌, ℕ, List, length, Option, Some, None, Result, Ok, Err, IfSome}
use Rattle.key_types.specs.declared.schema.Schema.{Schema}
use Rattle.key_types.specs.Columns.{Columns, columns_of}
use Rattle.outside.specs.declared.store.Part.TheVariants.{Partitions}
use Rattle.outside.specs.Files.{Files, bytes_of}
use Rattle.bti_nodes.specs.declared.damage.Cause.TheVariants.{BadFooter}
use Rattle.page_cache.specs.Pages.{AreOf, HeldPages}
use Rattle.index_files.specs.declared.footer.FooterNumbers.{FooterNumbers}
use Rattle.index_files.specs.Footers.{IsFooter, NoFooter}
use Rattle.index_files.specs.Reading.{file_damage, footer_place}
use Rattle.table_files.specs.Names.{partitions_id, schema_id}
use Rattle.table_files.specs.SchemaFile.{IsSchemaFile, IsWholeSchemaFile}
use Rattle.table_reader.specs.declared.fault.TableFault.{TableFault}
use Rattle.table_reader.specs.declared.fault.TableFault.TheVariants.{StoreFault, Damaged, Unfinished, NoMemory}

-- a table of a generation: its schema, the numbers of its footer once they are loaded, and the pages that it holds
pub record Opened : Type 0 where
  pub generation : ℕ
  pub schema : Schema
  pub footer : Option FooterNumbers
  pub pages : HeldPages

-- the numbers are those of the footer of a partition index
abbrev pub HasFooter : Columns → List ℕ → FooterNumbers → Type 0
HasFooter columns file numbers = (first : List ℕ) × (last : List ℕ) × IsFooter columns file first last numbers

-- What a table holds is that of the files of its generation: the schema, the footer where it is loaded, and the pages.
pub record TableStands (files : Files) (table : Opened) : Type 0 where
  pub schema : IsSchemaFile (columns_of table.schema) (bytes_of files (schema_id table.generation))
  pub footer :
      IfSome table.footer (HasFooter (columns_of table.schema) (bytes_of files (partitions_id table.generation)))
  pub pages : AreOf files table.pages

-- the same, where the store tells the files
abbrev pub StandsIn : Option Files → Opened → Type 0
StandsIn files table = IfSome files (λ m. TableStands m table)

-- A table opens by the whole text of its schema; where the bytes are no whole text, it is unfinished.
abbrev pub OpensTable : List ℕ → Result Opened TableFault → Type 0
OpensTable bytes (Ok table) = IsSchemaFile (columns_of table.schema) bytes
OpensTable bytes (Err Unfinished) = ¬ (IsWholeSchemaFile bytes)
OpensTable bytes (Err (Damaged damage)) = ⊥
OpensTable bytes (Err StoreFault) = Unit {0}
OpensTable bytes (Err NoMemory) = Unit {0}

-- the numbers that are loaded are those of the file's footer
abbrev pub IsLoaded : Columns → List ℕ → Option FooterNumbers → Type 0
IsLoaded columns file None = ⊥
IsLoaded columns file (Some numbers) = HasFooter columns file numbers

-- The table has its footer, or the file has none, which is damage.
abbrev pub LoadsFooter : {T : Type 0} → Columns → List ℕ → Option FooterNumbers → Result T TableFault → Type 0
LoadsFooter columns file footer (Ok x) = IsLoaded columns file footer
LoadsFooter columns file footer (Err (Damaged damage)) =
    (damage ≡ file_damage Partitions (footer_place (length file)) BadFooter) × NoFooter columns file
LoadsFooter columns file footer (Err Unfinished) = ⊥
LoadsFooter columns file footer (Err StoreFault) = Unit {0}
LoadsFooter columns file footer (Err NoMemory) = Unit {0}
