-- What is shown of a key's text over the files of a generation: a line, or why there is none.
use Rattle.std.specs.Prelude.{◌≡◌, ◌⊎◌, ℕ, List, [], ◌∷◌, ◌++◌, codes, length, Option, Some, None, Result, Ok, Err}
use Rattle.bti_nodes.specs.declared.damage.Cause.TheVariants.{BadFooter}
use Rattle.bti_nodes.specs.declared.damage.Damage.{Damage}
use Rattle.key_types.specs.Columns.{Columns}
use Rattle.key_types.specs.declared.schema.ValueType.{ValueType}
use Rattle.key_text.specs.Written.{value_literal}
use Rattle.outside.specs.Files.{Files, bytes_of}
use Rattle.outside.specs.declared.store.Part.TheVariants.{Partitions}
use Rattle.index_files.specs.declared.footer.FooterNumbers.{FooterNumbers}
use Rattle.index_files.specs.Footers.{NoFooter}
use Rattle.index_files.specs.Reading.{file_damage, footer_place}
use Rattle.table_files.specs.Names.{partitions_id, schema_id}
use Rattle.table_files.specs.SchemaFile.{IsSchemaFile, IsWholeSchemaFile}
use Rattle.table_reader.specs.declared.fault.TableFault.{TableFault}
use Rattle.table_reader.specs.declared.fault.TableFault.TheVariants as table_fault
use Rattle.table_reader.specs.Gets.{Found, Gets, bytes_in}
use Rattle.table_reader.specs.Opened.{HasFooter}
use Rattle.get_tool.specs.declared.asked.AskedKey.{AskedKey}
use Rattle.get_tool.specs.declared.asked.KeyStop.{KeyStop}
use Rattle.get_tool.specs.declared.asked.KeyStop.TheVariants as key_stop
use Rattle.get_tool.specs.declared.error.GetError.{GetError}
use Rattle.get_tool.specs.declared.error.GetError.TheVariants as get_error
use Rattle.get_tool.specs.Asked.{NamesKey, NamesNoKey}

-- ---- the line

-- the type that is there, or else the other
abbrev pub kind_or : ValueType → Option ValueType → ValueType
kind_or kind None = kind
kind_or kind (Some other) = other

-- the type of the value of a row, or of a static value; without a static type there is none
abbrev pub kind_within : Columns → Option (List ℕ) → ValueType
kind_within columns (Some string) = columns.value
kind_within columns None = kind_or columns.value columns.static_value

-- the line of a value
abbrev pub value_line : ValueType → List ℕ → List ℕ
value_line kind value = value_literal kind value ++ 10 ∷ []

-- the line of what is found
abbrev pub found_line : Columns → Option (List ℕ) → Option (List ℕ) → List ℕ
found_line columns clustering None = codes "none\n"
found_line columns clustering (Some value) = value_line (kind_within columns clustering) value

-- ---- what is found

-- the partition index has no footer, which is damage; or a get finds this
abbrev pub FindsKey : Files → ℕ → Columns → AskedKey → Found → Type 0
FindsKey files generation columns key found =
    (NoFooter columns (bytes_of files (partitions_id generation))
    × (found ≡ Err (file_damage Partitions (footer_place (length (bytes_of files (partitions_id generation)))) BadFooter)))
    ⊎ ((footer : FooterNumbers) × HasFooter columns (bytes_of files (partitions_id generation)) footer
    × Gets (bytes_in columns files generation) footer key.partition key.clustering found)

-- what is found, faults and want of memory aside
abbrev pub ShowsFound : Files → ℕ → Columns → AskedKey → Result (Option (List ℕ)) GetError → Type 0
ShowsFound files generation columns key (Ok found) = FindsKey files generation columns key (Ok found)
ShowsFound files generation columns key (Err (get_error.Damaged damage)) =
    FindsKey files generation columns key (Err damage)
ShowsFound files generation columns key (Err get_error.Usage) = ⊥
ShowsFound files generation columns key (Err get_error.Unfinished) = ⊥
ShowsFound files generation columns key (Err get_error.StoreFault) = Unit {0}
ShowsFound files generation columns key (Err get_error.NoMemory) = Unit {0}

-- the line of what is found
abbrev pub ShowsLine : Files → ℕ → Columns → AskedKey → Result (List ℕ) GetError → Type 0
ShowsLine files generation columns key (Ok line) =
    (found : Option (List ℕ)) × FindsKey files generation columns key (Ok found)
    × (line ≡ found_line columns key.clustering found)
ShowsLine files generation columns key (Err (get_error.Damaged damage)) =
    FindsKey files generation columns key (Err damage)
ShowsLine files generation columns key (Err get_error.Usage) = ⊥
ShowsLine files generation columns key (Err get_error.Unfinished) = ⊥
ShowsLine files generation columns key (Err get_error.StoreFault) = Unit {0}
ShowsLine files generation columns key (Err get_error.NoMemory) = Unit {0}

-- the text names a key, of which this is shown; or it names none
abbrev pub ShowsIn : Files → ℕ → Columns → List ℕ → Result (List ℕ) GetError → Type 0
ShowsIn files generation columns text (Ok line) =
    (key : AskedKey) × NamesKey columns text key × ShowsLine files generation columns key (Ok line)
ShowsIn files generation columns text (Err (get_error.Damaged damage)) =
    (key : AskedKey) × NamesKey columns text key
    × ShowsLine files generation columns key (Err (get_error.Damaged damage))
ShowsIn files generation columns text (Err get_error.Usage) = NamesNoKey columns text
ShowsIn files generation columns text (Err get_error.Unfinished) = ⊥
ShowsIn files generation columns text (Err get_error.StoreFault) = Unit {0}
ShowsIn files generation columns text (Err get_error.NoMemory) = Unit {0}

-- the same under the columns of the schema's file
abbrev pub ShowsUnder : Files → ℕ → List ℕ → Result (List ℕ) GetError → Type 0
ShowsUnder files generation text result =
    (columns : Columns) × IsSchemaFile columns (bytes_of files (schema_id generation))
    × ShowsIn files generation columns text result

-- What is shown of the text: the line of what is found; or the first damage; or that the text names no key; or that the
-- schema's file isn't whole.
abbrev pub Shows : Files → ℕ → List ℕ → Result (List ℕ) GetError → Type 0
Shows files generation text (Ok line) = ShowsUnder files generation text (Ok line)
Shows files generation text (Err (get_error.Damaged damage)) =
    ShowsUnder files generation text (Err (get_error.Damaged damage))
Shows files generation text (Err get_error.Usage) = ShowsUnder files generation text (Err get_error.Usage)
Shows files generation text (Err get_error.Unfinished) = ¬ (IsWholeSchemaFile (bytes_of files (schema_id generation)))
Shows files generation text (Err get_error.StoreFault) = Unit {0}
Shows files generation text (Err get_error.NoMemory) = Unit {0}

-- ---- errors

-- by why the table isn't read
abbrev pub error_of : TableFault → GetError
error_of table_fault.StoreFault = get_error.StoreFault
error_of (table_fault.Damaged damage) = get_error.Damaged damage
error_of table_fault.Unfinished = get_error.Unfinished
error_of table_fault.NoMemory = get_error.NoMemory

-- by why the key isn't
abbrev pub key_error : KeyStop → GetError
key_error key_stop.Refused = get_error.Usage
key_error key_stop.NoMemory = get_error.NoMemory
