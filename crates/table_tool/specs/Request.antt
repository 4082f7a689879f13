-- What the words ask for. This project's own.
use Rattle.std.specs.Prelude.{◌≡◌, ◌⊎◌, ◌≤◌, ℕ, Bool, true, false, List, codes, length, map, string_bytes, Option, option_map, Result, Ok, Err}
use Rattle.std.specs.declared.string.String.{String}
use Rattle.std.specs.declared.alloc.Global.{Global}
use Rattle.key_types.specs.declared.schema.Schema.{Schema}
use Rattle.key_types.specs.Columns.{Columns, columns_of}
use Rattle.key_types.specs.Kinds.{Kinds}
use Rattle.schema_text.specs.Bounds.{KeepsBounds}
use Rattle.schema_text.specs.Grammar.{IsSchemaText}
use Rattle.schema_text.specs.declared.reading.SchemaError.{SchemaError}
use Rattle.schema_text.specs.declared.reading.SchemaError.TheVariants as schema_error
use Rattle.command_line.specs.Said.{AreCells, AreRows, Said, Way, decode, encode, check, gen, get, key, list, load, scan, way_of}
use Rattle.command_line.specs.declared.command.KeyArguments.{KeyArguments}
use Rattle.key_tool.specs.declared.request.KeyWay.{KeyWay}
use Rattle.key_tool.specs.declared.request.KeyWay.TheVariants.{Encode, Decode}
use Rattle.key_tool.specs.Shown.{kinds_in}
use Rattle.command_line.specs.Reading.{command_of}
use Rattle.command_line.specs.declared.command.WordsError.{WordsError}
use Rattle.command_line.specs.declared.command.WordsError.TheVariants as error
use Rattle.bounds_text.specs.Bounds.{IsBoundsText, IsNoBoundsText}
use Rattle.table_files.specs.SchemaFile.{HaveSchemaFile}
use Rattle.table_tool.specs.Loading.{LoadAsked}
use Rattle.table_tool.specs.declared.request.GeneratedScript.{GeneratedScript}
use Rattle.table_tool.specs.declared.request.LoadRequest.{LoadRequest}
use Rattle.table_tool.specs.declared.request.Request.{Request}
use Rattle.table_tool.specs.declared.request.Request.TheVariants as request

-- the text, of at most 2,000 bytes, is one of a schema of these columns
pub record IsSchemaOf (text : List ℕ) (columns : Columns) : Type 0 where
  pub short : length text ≤ 2000
  pub bounds : KeepsBounds columns
  pub is : IsSchemaText columns text

-- the words say this
abbrev pub Say : List (String Global) → Said → Type 0
Say words said = command_of (map string_bytes words) ≡ Ok said

-- the words are `list`, the text of a schema of these columns, and so many cells
abbrev pub AskList : List (String Global) → Columns → ℕ → Type 0
AskList words columns cells = (text : List ℕ) × Say words (list text cells) × IsSchemaOf text columns

-- they are `load`, the text of a schema of these columns, that of these bounds, and so many cells and readers
abbrev pub AskLoad : List (String Global) → LoadAsked → Type 0
AskLoad words asked = (text : List ℕ) × (bounds : List ℕ) × Say words (load text bounds asked.cells asked.readers)
    × IsSchemaOf text asked.columns × IsBoundsText asked.columns bounds asked.bounds

-- they are `get` and the text of a key
abbrev pub AskGet : List (String Global) → List ℕ → Type 0
AskGet words text = Say words (get text)

-- they are `scan` with the texts of its two bounds, each there or not
abbrev pub AskScan : List (String Global) → Option (List ℕ) → Option (List ℕ) → Type 0
AskScan words from to = Say words (scan from to)

-- they are `check`
abbrev pub AskCheck : List (String Global) → Type 0
AskCheck words = Say words check

-- they are `gen --print` with the numbers of a script; cells and readers say nothing then
abbrev pub AskPrint : List (String Global) → GeneratedScript → Type 0
AskPrint words script =
    (cells : ℕ) × (readers : ℕ) × Say words (gen script.seed script.count script.gets true cells readers)

-- the text of the schema of generated scripts
abbrev pub generated_schema : List ℕ
generated_schema = codes "(text, int; bigint reversed; text)"

-- the text of the bounds between the shards that they are loaded into
abbrev pub generated_bounds : List ℕ
generated_bounds = codes "('u3', 0) ('u5', 0) ('u8', 0)"

-- what is asked for has the schema and the bounds of generated scripts
pub record IsGenerated (asked : LoadAsked) : Type 0 where
  pub schema : IsSchemaOf generated_schema asked.columns
  pub bounds : IsBoundsText asked.columns generated_bounds asked.bounds

-- they are `gen` without `--print`, with the numbers of a script, and so many cells and readers
abbrev pub AskGen : List (String Global) → GeneratedScript → LoadAsked → Type 0
AskGen words script asked =
    Say words (gen script.seed script.count script.gets false asked.cells asked.readers) × IsGenerated asked

-- what the words of `key` say of a way and a text
abbrev pub said_way : KeyWay → List ℕ → Way
said_way Encode text = encode text
said_way Decode text = decode text

-- the types of the components of a part of the key
abbrev pub part_kinds : Bool → Columns → Kinds
part_kinds true columns = columns.clustering
part_kinds false columns = columns.partition

-- they are `key` with the text of a schema, and ask for this way of a text of components of these types
abbrev pub AskKey : List (String Global) → Kinds → KeyWay → List ℕ → Type 0
AskKey words kinds way text = (schema : List ℕ) × (columns : Columns) × (clustering : Bool)
    × Say words (key schema clustering (said_way way text)) × IsSchemaOf schema columns × (kinds ≡ part_kinds clustering columns)

-- they are `key`
abbrev pub AreKey : List (String Global) → Type 0
AreKey words = (kinds : Kinds) × (way : KeyWay) × (text : List ℕ) × AskKey words kinds way text

-- they are `list`, and its text is accepted
abbrev pub AreList : List (String Global) → Type 0
AreList words = (columns : Columns) × (cells : ℕ) × AskList words columns cells

-- they are `load`, and its texts are accepted
abbrev pub AreLoad : List (String Global) → Type 0
AreLoad words = (asked : LoadAsked) × AskLoad words asked

-- they are `get`
abbrev pub AreGet : List (String Global) → Type 0
AreGet words = (text : List ℕ) × AskGet words text

-- they are `scan`
abbrev pub AreScan : List (String Global) → Type 0
AreScan words = (from : Option (List ℕ)) × (to : Option (List ℕ)) × AskScan words from to

-- they are `gen --print`
abbrev pub ArePrint : List (String Global) → Type 0
ArePrint words = (script : GeneratedScript) × AskPrint words script

-- they are `gen` without `--print`
abbrev pub AreGen : List (String Global) → Type 0
AreGen words = (script : GeneratedScript) × (asked : LoadAsked) × AskGen words script asked

-- they are a command whose texts are accepted
abbrev pub AskSome : List (String Global) → Type 0
AskSome words =
    AreList words ⊎ AreLoad words ⊎ AreGet words ⊎ AreScan words ⊎ AskCheck words ⊎ AreKey words ⊎ ArePrint words ⊎ AreGen words

-- they run batches of a script
abbrev pub LoadsScript : List (String Global) → Type 0
LoadsScript words = AreLoad words ⊎ AreGen words

-- they ask the store for anything
abbrev pub AsksStore : List (String Global) → Type 0
AsksStore words = LoadsScript words ⊎ AreGet words ⊎ AreScan words ⊎ AskCheck words

-- they say `load`, with any texts for its schema and its bounds
abbrev pub SayLoad : List (String Global) → Type 0
SayLoad words = (text : List ℕ) × (bounds : List ℕ) × (cells : ℕ) × (readers : ℕ) × Say words (load text bounds cells readers)

-- they say `gen` without `--print`
abbrev pub SayGen : List (String Global) → Type 0
SayGen words = (seed : ℕ) × (count : ℕ) × (gets : ℕ) × (cells : ℕ) × (readers : ℕ)
    × Say words (gen seed count gets false cells readers)

-- they say one of the two
abbrev pub SaysLoad : List (String Global) → Type 0
SaysLoad words = SayLoad words ⊎ SayGen words

-- no schema has the text that stands for one
abbrev pub IsNoSchema : List ℕ → Type 0
IsNoSchema text = (columns : Columns) → IsSchemaOf text columns → ⊥

-- the words are a command with a schema of this text
abbrev pub SaySchema : List (String Global) → List ℕ → Type 0
SaySchema words text =
    ((cells : ℕ) × Say words (list text cells))
    ⊎ ((bounds : List ℕ) × (cells : ℕ) × (readers : ℕ) × Say words (load text bounds cells readers))
    ⊎ ((clustering : Bool) × (way : Way) × Say words (key text clustering way))

-- the words are `load` with a schema of these columns and bounds of this text
abbrev pub SayBounds : List (String Global) → Columns → List ℕ → Type 0
SayBounds words columns bounds = (text : List ℕ) × (cells : ℕ) × (readers : ℕ) × Say words (load text bounds cells readers) × IsSchemaOf text columns

-- the words are no command, or the text that stands for a schema or for bounds isn't accepted
abbrev pub AreRefused : List (String Global) → Type 0
AreRefused words = (command_of (map string_bytes words) ≡ Err error.Usage)
    ⊎ ((text : List ℕ) × SaySchema words text × IsNoSchema text)
    ⊎ ((columns : Columns) × (bounds : List ℕ) × SayBounds words columns bounds × IsNoBoundsText columns bounds)

-- ---- what is answered: only private contracts cite it

-- a text that is refused as a schema is Usage
abbrev pub words_error : SchemaError → WordsError
words_error (schema_error.TooLong count) = error.Usage
words_error (schema_error.BadText at) = error.Usage
words_error schema_error.TooMany = error.Usage
words_error schema_error.TooDeep = error.Usage
words_error schema_error.NoMemory = error.NoMemory

-- the schema of the text, or Usage where it is of none
abbrev pub ReadsSchema : List ℕ → Result Schema WordsError → Type 0
ReadsSchema text (Ok schema) = IsSchemaOf text (columns_of schema)
ReadsSchema text (Err error.Usage) = IsNoSchema text
ReadsSchema text (Err error.NoMemory) = Unit {0}

-- what the values of `key` ask for, or Usage
abbrev pub ReadsKey : KeyArguments → Result Request WordsError → Type 0
ReadsKey arguments (Ok (request.Key asked)) = (columns : Columns) × IsSchemaOf (string_bytes arguments.schema) columns
    × (kinds_in asked.part asked.schema ≡ part_kinds arguments.clustering columns) × (way_of arguments.way ≡ said_way asked.way (string_bytes asked.text))
ReadsKey arguments (Ok (request.List asked)) = ⊥
ReadsKey arguments (Ok (request.Load asked)) = ⊥
ReadsKey arguments (Ok (request.Get text)) = ⊥
ReadsKey arguments (Ok (request.Scan asked)) = ⊥
ReadsKey arguments (Ok request.Check) = ⊥
ReadsKey arguments (Ok (request.Print script)) = ⊥
ReadsKey arguments (Ok (request.Gen asked)) = ⊥
ReadsKey arguments (Err error.Usage) = IsNoSchema (string_bytes arguments.schema)
ReadsKey arguments (Err error.NoMemory) = Unit {0}

-- what a request for `load` asks
abbrev pub asked_of : LoadRequest → LoadAsked
asked_of asked = record { columns = columns_of asked.schema; bounds = asked.bounds; cells = asked.cells; readers = asked.readers }

-- what a request for `load` keeps of its words: its numbers are within their limits, and its bounds are those of a text
pub record CanLoad (asked : LoadRequest) : Type 0 where
  pub schema : HaveSchemaFile (columns_of asked.schema)
  pub bounds : (text : List ℕ) × IsBoundsText (columns_of asked.schema) text asked.bounds
  pub cells : AreCells asked.cells
  pub some : 1 ≤ asked.readers
  pub eight : asked.readers ≤ 8

-- so of each request
abbrev pub CanRun : Request → Type 0
CanRun (request.List asked) = AreCells asked.cells
CanRun (request.Load asked) = CanLoad asked
CanRun (request.Get text) = Unit {0}
CanRun (request.Scan asked) = Unit {0}
CanRun request.Check = Unit {0}
CanRun (request.Key asked) = Unit {0}
CanRun (request.Print script) = AreRows script.count script.gets
CanRun (request.Gen asked) = AreRows asked.script.count asked.script.gets × CanLoad asked.load

-- the bounds of the text, or Usage where it is of none
abbrev pub ReadsBounds : Columns → List ℕ → Result (List (List ℕ)) WordsError → Type 0
ReadsBounds columns text (Ok bounds) = IsBoundsText columns text bounds
ReadsBounds columns text (Err error.Usage) = IsNoBoundsText columns text
ReadsBounds columns text (Err error.NoMemory) = Unit {0}

-- what is asked for, with its schema, or Usage
abbrev pub Asks : List (String Global) → Result Request WordsError → Type 0
Asks words (Ok (request.List asked)) = AskList words (columns_of asked.schema) asked.cells
Asks words (Ok (request.Load asked)) = AskLoad words (asked_of asked)
Asks words (Ok (request.Get text)) = AskGet words (string_bytes text)
Asks words (Ok (request.Scan asked)) =
    AskScan words (option_map string_bytes asked.from) (option_map string_bytes asked.to)
Asks words (Ok request.Check) = AskCheck words
Asks words (Ok (request.Key asked)) = AskKey words (kinds_in asked.part asked.schema) asked.way (string_bytes asked.text)
Asks words (Ok (request.Print script)) = AskPrint words script
Asks words (Ok (request.Gen asked)) = AskGen words asked.script (asked_of asked.load)
Asks words (Err error.Usage) = AreRefused words
Asks words (Err error.NoMemory) = Unit {0}

-- true where the words say `load`, or `gen` without `--print`, and false where they ask for neither
abbrev pub TellsLoad : List (String Global) → Bool → Type 0
TellsLoad words true = SaysLoad words
TellsLoad words false = ¬ (LoadsScript words)
