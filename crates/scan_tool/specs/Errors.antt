-- Why a scan isn't printed, by why a part of it isn't read.
use Rattle.grammar.specs.declared.stop.Stop.{Stop}
use Rattle.grammar.specs.declared.stop.Stop.TheVariants.{At, Memory}
use Rattle.byte_comparable.specs.declared.strings.KeyError.{KeyError}
use Rattle.byte_comparable.specs.declared.strings.KeyError.TheVariants as key_error
use Rattle.table_reader.specs.declared.fault.TableFault.{TableFault}
use Rattle.table_reader.specs.declared.fault.TableFault.TheVariants as table_fault
use Rattle.scan_tool.specs.declared.bound.BoundStop.{BoundStop}
use Rattle.scan_tool.specs.declared.bound.BoundStop.TheVariants as bound_stop
use Rattle.scan_tool.specs.declared.error.ScanError.{ScanError}
use Rattle.scan_tool.specs.declared.error.ScanError.TheVariants as scan_error

-- why a text isn't read as a bound, by where its reading stops
abbrev pub stop_of : Stop → BoundStop
stop_of (At left) = bound_stop.Refused
stop_of Memory = bound_stop.NoMemory

-- and by why its components have no strings
abbrev pub string_stop : KeyError → BoundStop
string_stop key_error.WrongCount = bound_stop.Refused
string_stop (key_error.WrongType at) = bound_stop.Refused
string_stop (key_error.TooLong size) = bound_stop.Refused
string_stop key_error.NoMemory = bound_stop.NoMemory

-- why nothing is printed, by why the table isn't read
abbrev pub error_of : TableFault → ScanError
error_of table_fault.StoreFault = scan_error.StoreFault
error_of (table_fault.Damaged damage) = scan_error.Damaged damage
error_of table_fault.Unfinished = scan_error.Unfinished
error_of table_fault.NoMemory = scan_error.NoMemory

-- and by why a bound isn't
abbrev pub bound_error : BoundStop → ScanError
bound_error bound_stop.Refused = scan_error.Usage
bound_error bound_stop.NoMemory = scan_error.NoMemory
