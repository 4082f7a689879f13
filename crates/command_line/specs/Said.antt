-- What the words say: a command and its values, each a text.
use Rattle.std.specs.Prelude.{◌≡◌, ◌≤◌, ℕ, Bool, Option, Result, Ok, Err, option_map}
use Rattle.std.specs.String.{string_bytes}
use Rattle.clap.specs.Walk.{Text}
use Rattle.command_line.specs.declared.command.Command.{Command}
use Rattle.command_line.specs.declared.command.Command.TheVariants as command
use Rattle.command_line.specs.declared.command.KeyWay.{KeyWay}
use Rattle.command_line.specs.declared.command.KeyWay.TheVariants.{Encode, Decode}
use Rattle.command_line.specs.declared.command.WordsError.{WordsError}
use Rattle.command_line.specs.declared.command.WordsError.TheVariants.{Usage, NoMemory}

-- what `key` is to do, with the text of its option
pub data Way : Type 0 where
  encode : (list : Text) → Way
  decode : (digits : Text) → Way

-- a command with its values
pub data Said : Type 0 where
  list : (schema : Text) → (cells : ℕ) → Said
  load : (schema bounds : Text) → (cells readers : ℕ) → Said
  get : (key : Text) → Said
  scan : (from to : Option Text) → Said
  check : Said
  key : (schema : Text) → (clustering : Bool) → (way : Way) → Said
  gen : (seed count gets : ℕ) → (print : Bool) → (cells readers : ℕ) → Said

-- what `key` of the code is to do
abbrev pub way_of : KeyWay → Way
way_of (Encode text) = encode (string_bytes text)
way_of (Decode text) = decode (string_bytes text)

-- what a command of the code says
abbrev pub said_of : Command → Said
said_of (command.List arguments) = list (string_bytes arguments.schema) arguments.cells
said_of (command.Load arguments) = load (string_bytes arguments.schema) (string_bytes arguments.bounds) arguments.cells arguments.readers
said_of (command.Get arguments) = get (string_bytes arguments.key)
said_of (command.Scan arguments) = scan (option_map string_bytes arguments.from) (option_map string_bytes arguments.to)
said_of command.Check = check
said_of (command.Key arguments) = key (string_bytes arguments.schema) arguments.clustering (way_of arguments.way)
said_of (command.Gen arguments) =
    gen arguments.seed arguments.count arguments.gets arguments.print arguments.cells arguments.readers

-- a shard may have so many cells
abbrev pub AreCells : ℕ → Type 0
AreCells cells = (1024 ≤ cells) × (cells ≤ 4194304)

-- there may be so many readers
abbrev pub AreReaders : ℕ → Type 0
AreReaders readers = (1 ≤ readers) × (readers ≤ 8)

-- a generated script may have so many rows, and so many lines that read one
abbrev pub AreRows : ℕ → ℕ → Type 0
AreRows count gets = (1 ≤ count) × (count ≤ 500000) × (gets ≤ count)

-- the numbers of a command are within their limits
abbrev pub IsLimited : Command → Type 0
IsLimited (command.List arguments) = AreCells arguments.cells
IsLimited (command.Load arguments) = AreCells arguments.cells × AreReaders arguments.readers
IsLimited (command.Get arguments) = Unit {0}
IsLimited (command.Scan arguments) = Unit {0}
IsLimited command.Check = Unit {0}
IsLimited (command.Key arguments) = Unit {0}
IsLimited (command.Gen arguments) =
    AreRows arguments.count arguments.gets × AreCells arguments.cells × AreReaders arguments.readers

-- the answer is the expected one as `view` sees it, or memory ran out
abbrev pub AnswersCommand : {X Y : Type 0} → (X → Y) → Result X WordsError → Result Y WordsError → Type 0
AnswersCommand view (Ok x) expected = expected ≡ Ok (view x)
AnswersCommand view (Err Usage) expected = expected ≡ Err Usage
AnswersCommand view (Err NoMemory) expected = Unit {0}
