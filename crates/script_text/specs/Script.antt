-- What a script spells: its batches, or the first line that isn't accepted. This project's own.
use Rattle.std.specs.Prelude.{◌≡◌, ℕ, ◌+◌, ◌%◌, ◌||◌, List, [], ◌∷◌, ◌++◌, length, map, ⊤, Result, Ok, Err, if◌then◌else◌, nat_lt}
use Rattle.std.specs.Str.{is_utf8}
use Rattle.key_types.specs.Table.{Entry}
use Rattle.byte_comparable.specs.Strings.{longest_string}
use Rattle.key_types.specs.Columns.{Columns, longest_value}
use Rattle.script_text.specs.Puts.{Put, Get, Batch}
use Rattle.script_text.specs.declared.script.Script.{Script}
use Rattle.script_text.specs.declared.script.LineCause.{LineCause}
use Rattle.script_text.specs.declared.script.LineCause.TheVariants.{NotUtf8, KeyTooLong, ValueTooLong}
use Rattle.script_text.specs.declared.script.ScriptError.{ScriptError}
use Rattle.script_text.specs.declared.script.ScriptError.TheVariants.{BadLine, TooLarge, NoMemory}
use Rattle.script_text.specs.Reading.{line_of}
use Rattle.script_text.specs.Lines.{lines_of}
use Rattle.script_text.specs.Spelled.{Line, no_line, put_line, get_line, sync_line, spelled_line, gets_after}

-- ---- batches

abbrev pub empty_batch : Batch
empty_batch = record { puts = []; gets = [] }

-- a line in front of a batch and those behind it: `sync` begins one more
abbrev pub in_front : Line → Batch × List Batch → Batch × List Batch
in_front no_line batches = batches
in_front (put_line p) batches = (record { puts = p ∷ batches.0.puts; gets = batches.0.gets }, batches.1)
in_front (get_line g) batches = (record { puts = batches.0.puts; gets = g ∷ batches.0.gets }, batches.1)
in_front sync_line batches = (empty_batch, batches.0 ∷ batches.1)

-- the first batch of some lines, and those behind it: `sync` ends a batch, and the end of the script ends the last
abbrev pub first_and_rest : List Line → Batch × List Batch
first_and_rest [] = (empty_batch, [])
first_and_rest (line ∷ lines) = in_front line (first_and_rest lines)

-- all batches of some lines
abbrev pub batches_of : List Line → List Batch
batches_of lines = let split = first_and_rest lines in split.0 ∷ split.1

-- all puts of a script in the order of their lines
abbrev pub puts_of : List Batch → List Put
puts_of [] = []
puts_of (batch ∷ batches) = batch.puts ++ puts_of batches

-- all gets of a script in the order of their lines
abbrev pub gets_of : List Batch → List Get
gets_of [] = []
gets_of (batch ∷ batches) = batch.gets ++ gets_of batches

-- the script of these lines
abbrev pub script_with : List Line → Script
script_with lines = record { batches = batches_of lines; puts = length (puts_of (batches_of lines)) }

-- ---- a line that is accepted

-- one step after another, unless the first fails
infixl 10 ◌>>=◌
abbrev pub ◌>>=◌ : {A B E : Type 0} → Result A E → (A → Result B E) → Result B E
(Ok x) >>= f = f x
(Err e) >>= f = Err e

-- the length of a string isn't too great
abbrev pub short_key : ℕ → Result ⊤ LineCause
short_key n = if nat_lt longest_string n then Err (KeyTooLong n) else Ok tt

-- that of a value isn't too great
abbrev pub short_value : ℕ → Result ⊤ LineCause
short_value n = if nat_lt longest_value n then Err (ValueTooLong n) else Ok tt

-- those of the strings of a key: of the partition's, and of the one within it
abbrev pub short_keys : ℕ → ℕ → Result ⊤ LineCause
short_keys partition clustering = short_key partition >>= λ _. short_key clustering

-- a line of which no string is too long, nor the value; or the first of them that is
abbrev pub short_line : Line → Result Line LineCause
short_line no_line = Ok no_line
short_line (put_line p) = short_keys (length p.partition) (length p.clustering) >>= λ _. short_value (length p.value) >>= λ _. Ok (put_line p)
short_line (get_line g) = short_keys (length g.partition) (length g.clustering) >>= λ _. Ok (get_line g)
short_line sync_line = Ok sync_line

-- what the line with this number spells, of which a get goes to this reader
abbrev pub line_on : Columns → ℕ → ℕ → List ℕ → Result Line LineCause
line_on s number reader text = if is_utf8 text then (line_of s text >>= λ said. short_line (spelled_line s number reader said)) else Err NotUtf8

-- ---- all lines

-- what came of a line with this number
abbrev pub at_line : {X : Type 0} → ℕ → Result X LineCause → Result X ScriptError
at_line number (Ok x) = Ok x
at_line number (Err cause) = Err (BadLine number cause)

-- what the lines spell, the first of which has this number and so many gets before it, or the first that isn't accepted; gets go to so many readers in turn
abbrev pub lines_from : Columns → ℕ → ℕ → ℕ → List (List ℕ) → Result (List Line) ScriptError
lines_from s readers number gets [] = Ok []
lines_from s readers number gets (text ∷ texts) =
    at_line number (line_on s number (gets % readers) text) >>= λ line. lines_from s readers (number + 1) (gets_after line gets) texts >>= λ lines. Ok (line ∷ lines)

-- the script of lines, where all are accepted
abbrev pub script_by : Result (List Line) ScriptError → Result Script ScriptError
script_by (Ok lines) = Ok (script_with lines)
script_by (Err e) = Err e

-- the greatest length of a script, in bytes, and the greatest count of its lines
abbrev pub most_bytes : ℕ
most_bytes = 67108864

abbrev pub most_lines : ℕ
most_lines = 1000000

-- the greatest count of readers
abbrev pub most_readers : ℕ
most_readers = 8

-- what the bytes spell under a schema of these columns, for so many readers: too large with too many bytes or lines, which is asked first
abbrev pub script_of : Columns → ℕ → List ℕ → Result Script ScriptError
script_of s readers bs =
    if nat_lt most_bytes (length bs) || nat_lt most_lines (length (lines_of bs)) then Err TooLarge
    else script_by (lines_from s readers 1 0 (lines_of bs))

-- ---- entries

-- the key string of a put, which for a static value is that of its partition, and its value
abbrev pub entry_of_put : Put → Entry
entry_of_put put = (put.partition ++ put.clustering, put.value)

-- those of several puts
abbrev pub entries_of : List Put → List Entry
entries_of puts = map entry_of_put puts

-- the answer is what is expected, unless memory ran out
abbrev pub AnswersScript : {X : Type 0} → Result X ScriptError → Result X ScriptError → Type 0
AnswersScript (Err NoMemory) expected = Unit {0}
AnswersScript result expected = result ≡ expected
