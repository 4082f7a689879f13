-- Footers that a table doesn't load.
use Rattle.std.proofs.Common.{◌≡◌, ℕ, List, Option, None, Some, IfSome, Err, subst, sym}
use Rattle.outside.specs.declared.store.FileId.{FileId}
use Rattle.outside.specs.Files.{Files, bytes_of}
use Rattle.key_types.specs.Columns.{Columns}
use Rattle.data_file.specs.declared.reading.DataError.{DataError}
use Rattle.data_file.specs.declared.reading.DataError.TheVariants.{StoreFault, Damaged, NoMemory}
use Rattle.index_files.specs.declared.footer.FooterNumbers.{FooterNumbers}
use Rattle.index_files.specs.Reading.{ReadsFooter}
use Rattle.table_files.specs.Names.{partitions_id}
use Rattle.table_reader.specs.declared.fault.TableFault.{TableFault}
use Rattle.table_reader.specs.Faults.{fault_of}
use Rattle.table_reader.specs.Opened.{LoadsFooter}

-- why a footer isn't read
fault_is : (columns : Columns) (bytes : List ℕ) (footer : Option FooterNumbers) (e : DataError) → ReadsFooter columns (partitions_id 0).part bytes (Err e)
    → LoadsFooter {T = Unit {0}} columns bytes footer (Err (fault_of e))
fault_is columns bytes footer StoreFault told = tt
fault_is columns bytes footer NoMemory told = tt
fault_is columns bytes footer (Damaged damage) told = told

pub footer_fault : (files : Option Files) (file : FileId) (generation : ℕ) (columns : Columns) (footer : Option FooterNumbers) (e : DataError) (f : TableFault)
    → file ≡ partitions_id generation → IfSome files (λ m. ReadsFooter columns file.part (bytes_of m file) (Err e)) → f ≡ fault_of e
    → IfSome files (λ m. LoadsFooter {T = Unit {0}} columns (bytes_of m (partitions_id generation)) footer (Err f))
footer_fault None file generation columns footer e f same told is = tt
footer_fault (Some m) file generation columns footer e f same told is =
    subst (λ (x : TableFault). LoadsFooter {T = Unit {0}} columns (bytes_of m (partitions_id generation)) footer (Err x)) (sym is)
    (fault_is columns (bytes_of m (partitions_id generation)) footer e (subst (λ (x : FileId). ReadsFooter columns x.part (bytes_of m x) (Err e)) same told))
