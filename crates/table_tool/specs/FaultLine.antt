-- The line that a refusal ends with. This project's own.
use Rattle.std.specs.Prelude.{ℕ, List, [], ◌++◌, codes}
use Rattle.std.specs.Fmt.{decimal, signed_decimal}
use Rattle.outside.specs.declared.store.Part.{Part}
use Rattle.outside.specs.declared.store.Part.TheVariants.{Data, Partitions, Rows, Schema}
use Rattle.bti_nodes.specs.declared.damage.Cause.{Cause}
use Rattle.bti_nodes.specs.declared.damage.Cause.TheVariants.{PastPage, BadOrder, BadPointer, BadPayload, BadFooter, BadEntry, BadHead, BadRow}
use Rattle.script_text.specs.declared.script.LineCause.{LineCause}
use Rattle.script_text.specs.declared.script.LineCause.TheVariants.{NotUtf8, BadText, OutOfRange, KeyTooLong, ValueTooLong}
use Rattle.data_walk.specs.declared.clash.Clash.{Clash}
use Rattle.data_walk.specs.declared.clash.Clash.TheVariants.{Order, Path, Number, Key}
use Rattle.table_tool.specs.declared.status.Status.{Status}
use Rattle.table_tool.specs.declared.status.Status.TheVariants as status

-- why a line isn't accepted
abbrev pub cause_text : LineCause → List ℕ
cause_text NotUtf8 = codes "not utf-8"
cause_text (BadText at) = codes "bad text at " ++ decimal at
cause_text (OutOfRange at) = codes "out of range at " ++ decimal at
cause_text (KeyTooLong count) = codes "key too long " ++ decimal count
cause_text (ValueTooLong count) = codes "value too long " ++ decimal count

-- the name of a part of the table
abbrev pub part_text : Part → List ℕ
part_text Data = codes "Data"
part_text Partitions = codes "Partitions"
part_text Rows = codes "Rows"
part_text Schema = codes "Schema"

-- a place of a file
abbrev pub place_text : Part → ℕ → List ℕ
place_text part position = part_text part ++ codes " at " ++ decimal position ++ codes ": "

-- what is wrong at a place of a file
abbrev pub damage_text : Cause → List ℕ
damage_text PastPage = codes "past page"
damage_text BadOrder = codes "bad order"
damage_text BadPointer = codes "bad pointer"
damage_text BadPayload = codes "bad payload"
damage_text BadFooter = codes "bad footer"
damage_text BadEntry = codes "bad entry"
damage_text BadHead = codes "bad head"
damage_text BadRow = codes "bad row"

-- how a file differs from what Data.db gives
abbrev pub clash_text : Clash → List ℕ
clash_text Order = codes "order"
clash_text Path = codes "path"
clash_text (Number found wanted) = codes "number " ++ signed_decimal found ++ codes " not " ++ signed_decimal wanted
clash_text Key = codes "key"

-- the line that a refusal ends with; Ok, a fault of the sink and want of memory have none
abbrev pub fault_line : Status → List ℕ
fault_line status.Usage = codes "error: usage\n"
fault_line status.Key = codes "error: key\n"
fault_line (status.BadLine line cause) = codes "error: line " ++ decimal line ++ codes ": " ++ cause_text cause ++ codes "\n"
fault_line (status.Full line) = codes "error: line " ++ decimal line ++ codes ": shard full\n"
fault_line status.SourceFault = codes "error: source fault\n"
fault_line status.StoreFault = codes "error: store fault\n"
fault_line (status.Damaged damage) =
    codes "error: damaged " ++ place_text damage.part damage.position ++ damage_text damage.cause ++ codes "\n"
fault_line status.Unfinished = codes "error: unfinished\n"
fault_line status.Exists = codes "error: exists\n"
fault_line status.TooLarge = codes "error: too large\n"
fault_line (status.Unsound mismatch) =
    codes "error: unsound " ++ place_text mismatch.part mismatch.position ++ clash_text mismatch.clash ++ codes "\n"
fault_line status.Ok = []
fault_line status.SinkFault = []
fault_line status.NoMemory = []
