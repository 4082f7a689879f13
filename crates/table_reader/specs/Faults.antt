-- Why a table isn't read, by why a file of it isn't.
use Rattle.data_file.specs.declared.reading.DataError.{DataError}
use Rattle.data_file.specs.declared.reading.DataError.TheVariants as data_error
use Rattle.table_files.specs.declared.error.FileError.{FileError}
use Rattle.table_files.specs.declared.error.FileError.TheVariants as file_error
use Rattle.table_reader.specs.declared.fault.TableFault.{TableFault}
use Rattle.table_reader.specs.declared.fault.TableFault.TheVariants.{StoreFault, Damaged, NoMemory}

-- why what stands at a place of a file wasn't read
abbrev pub fault_of : DataError → TableFault
fault_of data_error.StoreFault = StoreFault
fault_of (data_error.Damaged damage) = Damaged damage
fault_of data_error.NoMemory = NoMemory

-- why the schema's file wasn't read
abbrev pub file_fault : FileError → TableFault
file_fault file_error.StoreFault = StoreFault
file_fault file_error.NoMemory = NoMemory
