-- What a script says, line by line, by the grammar of lines and not by how they are read. This project's own.
use Rattle.std.specs.Prelude.{◌≡◌, ◌⊎◌, ◌≤◌, ◌<◌, ℕ, ◌+◌, ◌%◌, List, [], ◌∷◌, length, false, Result, Ok, Err, IsTrue}
use Rattle.std.specs.Str.{is_utf8}
use Rattle.grammar.specs.Exact.{Longest}
use Rattle.key_types.specs.Columns.{Columns, longest_value}
use Rattle.byte_comparable.specs.Strings.{longest_string}
use Rattle.script_text.specs.declared.script.Script.{Script}
use Rattle.script_text.specs.declared.script.LineCause.{LineCause}
use Rattle.script_text.specs.declared.script.LineCause.TheVariants.{NotUtf8, BadText, OutOfRange, KeyTooLong, ValueTooLong}
use Rattle.script_text.specs.declared.script.ScriptError.{ScriptError}
use Rattle.script_text.specs.declared.script.ScriptError.TheVariants.{BadLine, TooLarge, NoMemory}
use Rattle.script_text.specs.Lines.{lines_of}
use Rattle.script_text.specs.Grammar.{LineText, IsLine, LineFits}
use Rattle.script_text.specs.Passing.{LinePasses}
use Rattle.script_text.specs.Script.{script_with, most_bytes, most_lines, script_of}
use Rattle.script_text.specs.Spelled.{Line, no_line, put_line, get_line, sync_line, spelled_line, gets_after}

-- ---- a line

-- neither string of a key is too long
abbrev pub AreShort : List ℕ → List ℕ → Type 0
AreShort partition clustering = (length partition ≤ longest_string) × (length clustering ≤ longest_string)

-- neither its strings nor its value are too long
abbrev pub IsShort : Line → Type 0
IsShort no_line = Unit {0}
IsShort (put_line p) = AreShort p.partition p.clustering × (length p.value ≤ longest_value)
IsShort (get_line g) = AreShort g.partition g.clustering
IsShort sync_line = Unit {0}

-- the first of these strings that is too long has this length
abbrev pub AreTooLong : List ℕ → List ℕ → ℕ → Type 0
AreTooLong partition clustering n =
    ((longest_string < length partition) × (n ≡ length partition))
    ⊎ ((length partition ≤ longest_string) × (longest_string < length clustering) × (n ≡ length clustering))

-- so of the strings of a line's key
abbrev pub HasLongKey : Line → ℕ → Type 0
HasLongKey no_line n = ⊥
HasLongKey (put_line p) n = AreTooLong p.partition p.clustering n
HasLongKey (get_line g) n = AreTooLong g.partition g.clustering n
HasLongKey sync_line n = ⊥

-- its strings aren't too long, and its value is, which has this length
abbrev pub HasLongValue : Line → ℕ → Type 0
HasLongValue no_line n = ⊥
HasLongValue (put_line p) n = AreShort p.partition p.clustering × (longest_value < length p.value) × (n ≡ length p.value)
HasLongValue (get_line g) n = ⊥
HasLongValue sync_line n = ⊥

-- the line with this number is UTF-8 and says something whose numbers are of their types, and of what it spells this holds; a get goes to this reader
abbrev pub Spells : Columns → ℕ → ℕ → List ℕ → (Line → Type 0) → Type 0
Spells s number reader text Holds = IsTrue (is_utf8 text) × ((said : LineText) × IsLine s said text × LineFits s said × Holds (spelled_line s number reader said))

-- the line with this number is accepted, and this is what it spells
abbrev pub IsAcceptedLine : Columns → ℕ → ℕ → List ℕ → Line → Type 0
IsAcceptedLine s number reader text line = Spells s number reader text (λ x. (line ≡ x) × IsShort x)

-- the line with this number isn't accepted, for this cause: it is no UTF-8; or it is none of the grammar, whose lines begin with so many of its bytes and no more; or it is one with numbers of any size, the first of which that passes its type begins here; or it spells a string or a value of this length, which is too long
abbrev pub IsRefusedLine : Columns → ℕ → ℕ → List ℕ → LineCause → Type 0
IsRefusedLine s number reader text NotUtf8 = is_utf8 text ≡ false
IsRefusedLine s number reader text (BadText at) = IsTrue (is_utf8 text) × ((said : LineText) → IsLine s said text → ⊥) × Longest (IsLine s) text at
IsRefusedLine s number reader text (OutOfRange at) = IsTrue (is_utf8 text) × LinePasses s text at
IsRefusedLine s number reader text (KeyTooLong n) = Spells s number reader text (λ x. HasLongKey x n)
IsRefusedLine s number reader text (ValueTooLong n) = Spells s number reader text (λ x. HasLongValue x n)

-- ---- a script

-- all lines are accepted, and spell these; the first has this number and so many gets before it, and the gets go to so many readers in turn
abbrev pub AreAcceptedLines : Columns → ℕ → ℕ → ℕ → List (List ℕ) → List Line → Type 0
AreAcceptedLines s readers number gets [] lines = lines ≡ []
AreAcceptedLines s readers number gets (text ∷ texts) lines =
    (line : Line) × (rest : List Line) × IsAcceptedLine s number (gets % readers) text line
    × AreAcceptedLines s readers (number + 1) (gets_after line gets) texts rest × (lines ≡ line ∷ rest)

-- of such lines the first that isn't accepted has the number `bad`, and this is its cause
abbrev pub IsFirstRefused : Columns → ℕ → ℕ → ℕ → List (List ℕ) → ℕ → LineCause → Type 0
IsFirstRefused s readers number gets [] bad cause = ⊥
IsFirstRefused s readers number gets (text ∷ texts) bad cause =
    ((bad ≡ number) × IsRefusedLine s number (gets % readers) text cause)
    ⊎ ((line : Line) × IsAcceptedLine s number (gets % readers) text line × IsFirstRefused s readers (number + 1) (gets_after line gets) texts bad cause)

-- there are too many bytes or lines
abbrev pub IsTooLarge : List ℕ → Type 0
IsTooLarge bytes = (most_bytes < length bytes) ⊎ (most_lines < length (lines_of bytes))

-- what the bytes say under a schema of these columns, for so many readers: the script of what all lines spell; or the first line that isn't accepted with its cause; or that they are too many, which is asked first
abbrev pub IsScript : Columns → ℕ → List ℕ → Result Script ScriptError → Type 0
IsScript s readers bytes (Ok script) = (IsTooLarge bytes → ⊥) × ((lines : List Line) × AreAcceptedLines s readers 1 0 (lines_of bytes) lines × (script ≡ script_with lines))
IsScript s readers bytes (Err (BadLine line cause)) = (IsTooLarge bytes → ⊥) × IsFirstRefused s readers 1 0 (lines_of bytes) line cause
IsScript s readers bytes (Err TooLarge) = IsTooLarge bytes
IsScript s readers bytes (Err NoMemory) = ⊥

-- what is answered where bytes are read as a script, unless memory runs out
abbrev pub ReadsScript : Columns → ℕ → List ℕ → Result Script ScriptError → Type 0
ReadsScript s readers bytes (Ok script) = IsScript s readers bytes (Ok script)
ReadsScript s readers bytes (Err (BadLine line cause)) = IsScript s readers bytes (Err (BadLine line cause))
ReadsScript s readers bytes (Err TooLarge) = IsScript s readers bytes (Err TooLarge)
ReadsScript s readers bytes (Err NoMemory) = Unit {0}

-- the meaning of bytes as a script, and `script_of`
pub record ScriptMeaning : Type 0 where
  -- what `script_of` computes is what the bytes say
  pub computed : (s : Columns) (readers : ℕ) (bytes : List ℕ) → IsScript s readers bytes (script_of s readers bytes)
  -- and of bytes that say a script, or that they are too many, it computes no other
  pub accepted : (s : Columns) (readers : ℕ) (bytes : List ℕ) (script : Script) → IsScript s readers bytes (Ok script) → script_of s readers bytes ≡ Ok script
  pub large : (s : Columns) (readers : ℕ) (bytes : List ℕ) → IsScript s readers bytes (Err TooLarge) → script_of s readers bytes ≡ Err TooLarge
