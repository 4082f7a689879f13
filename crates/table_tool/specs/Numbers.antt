-- The exit status of the program. This project's own.
use Rattle.std.specs.Prelude.{ℕ}
use Rattle.table_tool.specs.declared.status.Status.{Status}
use Rattle.table_tool.specs.declared.status.Status.TheVariants as status

-- the number of a status
abbrev pub status_number : Status → ℕ
status_number status.Ok = 0
status_number status.Usage = 1
status_number status.Key = 1
status_number (status.BadLine line cause) = 2
status_number (status.Full line) = 3
status_number status.SourceFault = 4
status_number status.SinkFault = 5
status_number status.StoreFault = 6
status_number (status.Damaged damage) = 7
status_number status.Unfinished = 8
status_number status.Exists = 9
status_number status.TooLarge = 10
status_number (status.Unsound mismatch) = 11
status_number status.NoMemory = 12
