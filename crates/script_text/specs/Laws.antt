-- What holds of the lines of scripts, and of the batches of an accepted one. This project's own.
use Rattle.std.specs.Prelude.{◌≡◌, ◌⊎◌, ◌≤◌, ◌<◌, ℕ, ◌+◌, ◌%◌, List, [], ◌∷◌, length, map, true, Some, Result, Ok, Err}
use Rattle.std.specs.Str.{is_utf8}
use Rattle.key_types.specs.declared.schema.ValueType.{ValueType}
use Rattle.key_types.specs.Columns.{Columns, IsValueOf}
use Rattle.key_types.specs.Kinds.{Kinds, Vals, EachFits}
use Rattle.byte_comparable.specs.Encoding.{key_string}
use Rattle.byte_comparable.specs.Strings.{longest_string}
use Rattle.byte_comparable.specs.Order.{Key, KeyFits, key_order, string_of_key}
use Rattle.key_types.specs.Table.{Entry, table_of}
use Rattle.std.specs.declared.cmp.Ordering.TheVariants.{Less}
use Rattle.std.specs.FinMap as finite
use Rattle.grammar.specs.Exact.{Longest}
use Rattle.script_text.specs.declared.script.LineCause.{LineCause}
use Rattle.script_text.specs.declared.script.LineCause.TheVariants as cause
use Rattle.script_text.specs.Puts.{Put, Get, Batch}
use Rattle.script_text.specs.declared.script.Script.{Script}
use Rattle.script_text.specs.Grammar.{LineText, IsLine, LineFits}
use Rattle.script_text.specs.Passing.{LinePasses}
use Rattle.script_text.specs.Reading.{line_of}
use Rattle.script_text.specs.Script.{batches_of, most_lines, puts_of, gets_of, entries_of, script_of}
use Rattle.script_text.specs.Spelled.{Line, puts_in, gets_in}

-- ---- lines

-- a line that fits is read as what it says; BadText is told for no line of the grammar, at the length of its longest prefix that begins one; OutOfRange for one of it, at the first number that passes its type; no other cause is told
abbrev pub LineReads : Columns → List ℕ → Result LineText LineCause → Type 0
LineReads s line (Ok said) = IsLine s said line × LineFits s said
LineReads s line (Err (cause.BadText at)) = ((said : LineText) → IsLine s said line → ⊥) × Longest (IsLine s) line at
LineReads s line (Err (cause.OutOfRange at)) = LinePasses s line at
LineReads s line (Err _) = ⊥

-- lines are read exactly, under every schema
pub record ReadsLines : Type 0 where
  -- what is told of a line of UTF-8 is so
  pub only : (s : Columns) (line : List ℕ) → is_utf8 line ≡ true → LineReads s line (line_of s line)
  -- a line of the grammar that fits is read
  pub all : (s : Columns) (said : LineText) (line : List ℕ) → IsLine s said line → LineFits s said → line_of s line ≡ Ok said

-- ---- keys

-- the string of some components that fit, which isn't too long
abbrev pub IsKeyString : Kinds → List ℕ → Type 0
IsKeyString ts string = (vs : Vals) × EachFits ts vs × (string ≡ key_string ts vs) × (length string ≤ longest_string)

-- ---- puts

-- a put of a row: its strings are keys, and the value is of the type of rows
abbrev pub IsRowPut : Columns → Put → Type 0
IsRowPut s put = IsKeyString s.clustering put.clustering × IsValueOf s.value put.value

-- a put of a static value, which there is a type for: the string within the partition is empty
abbrev pub IsStaticPut : Columns → Put → Type 0
IsStaticPut s put = (t : ValueType) × (s.static_value ≡ Some t) × (put.clustering ≡ []) × IsValueOf t put.value

-- a put under a schema
abbrev pub IsSchemaPut : Columns → Put → Type 0
IsSchemaPut s put = IsKeyString s.partition put.partition × (IsRowPut s put ⊎ IsStaticPut s put)

-- all are puts under a schema
abbrev pub ArePuts : Columns → List Put → Type 0
ArePuts s [] = Unit {0}
ArePuts s (put ∷ puts) = IsSchemaPut s put × ArePuts s puts

-- ---- gets

-- a get of a static value, which there is a type for: the string within the partition is empty
abbrev pub IsStaticGet : Columns → Get → Type 0
IsStaticGet s get = (t : ValueType) × (s.static_value ≡ Some t) × (get.clustering ≡ [])

-- a get under a schema, of a row or of a static value
abbrev pub IsSchemaGet : Columns → Get → Type 0
IsSchemaGet s get = IsKeyString s.partition get.partition × (IsKeyString s.clustering get.clustering ⊎ IsStaticGet s get)

-- all are gets under a schema
abbrev pub AreGets : Columns → List Get → Type 0
AreGets s [] = Unit {0}
AreGets s (get ∷ gets) = IsSchemaGet s get × AreGets s gets

-- the gets go to the readers in turn, of which there are so many; the first has so many before it
abbrev pub AreDealt : ℕ → ℕ → List Get → Type 0
AreDealt readers before [] = Unit {0}
AreDealt readers before (get ∷ gets) = (get.reader ≡ before % readers) × (get.reader < readers) × AreDealt readers (before + 1) gets

-- ---- batches

-- the numbers ascend, from this one on
abbrev pub NumbersAscend : ℕ → List ℕ → Type 0
NumbersAscend least [] = Unit {0}
NumbersAscend least (n ∷ ns) = (least ≤ n) × NumbersAscend (n + 1) ns

-- the lines of some puts ascend, from this number on, and so do those of some gets
abbrev pub PutsAscend : ℕ → List Put → Type 0
PutsAscend least puts = NumbersAscend least (map (λ put. put.line) puts)

abbrev pub GetsAscend : ℕ → List Get → Type 0
GetsAscend least gets = NumbersAscend least (map (λ get. get.line) gets)

-- in each batch the lines ascend in both lists
abbrev pub EachAscends : List Batch → Type 0
EachAscends [] = Unit {0}
EachAscends (batch ∷ batches) = PutsAscend 1 batch.puts × GetsAscend 1 batch.gets × EachAscends batches

-- what an accepted script for so many readers is
pub record IsAccepted (s : Columns) (readers : ℕ) (script : Script) : Type 0 where
  -- its puts and its gets are of the schema
  pub are : ArePuts s (puts_of script.batches)
  pub ask : AreGets s (gets_of script.batches)
  -- the puts are counted, and there are not too many
  pub count : script.puts ≡ length (puts_of script.batches)
  pub few : length (puts_of script.batches) ≤ most_lines
  -- the lines of all puts ascend, and those of all gets, and so they do in each batch
  pub puts_ascend : PutsAscend 1 (puts_of script.batches)
  pub gets_ascend : GetsAscend 1 (gets_of script.batches)
  pub each : EachAscends script.batches
  -- there are not too many gets, and they go to the readers in turn
  pub few_gets : length (gets_of script.batches) ≤ most_lines
  pub dealt : AreDealt readers 0 (gets_of script.batches)

-- every script that bytes spell for one reader or more is such a script
abbrev pub SpelledAreAccepted : Type 0
SpelledAreAccepted = (s : Columns) (readers : ℕ) (bytes : List ℕ) (script : Script) → 1 ≤ readers → script_of s readers bytes ≡ Ok script → IsAccepted s readers script

-- ---- the puts and gets of lines

-- the puts and gets of all batches in their order are those of the lines
pub record BatchesKeepOrder : Type 0 where
  pub puts : (lines : List Line) → puts_of (batches_of lines) ≡ puts_in lines
  pub gets : (lines : List Line) → gets_of (batches_of lines) ≡ gets_in lines

-- ---- the sorted map of an accepted script

-- the string is that of this typed key, each component of which fits its type
abbrev pub HasKey : Columns → Key → List ℕ → Type 0
HasKey s key string = KeyFits s.partition s.clustering key × (string ≡ string_of_key s.partition s.clustering key)

-- the entries are of these typed keys, one after the other
abbrev pub AreOfKeys : Columns → List Key → List Entry → Type 0
AreOfKeys s [] entries = entries ≡ []
AreOfKeys s (key ∷ keys) entries = (entry : Entry) × (rest : List Entry) × (entries ≡ entry ∷ rest) × HasKey s key entry.0 × AreOfKeys s keys rest

-- each key is less than the next, a static key first in its partition
abbrev pub KeysAscend : Columns → List Key → Type 0
KeysAscend s [] = Unit {0}
KeysAscend s (key ∷ []) = Unit {0}
KeysAscend s (key ∷ next ∷ keys) = (key_order s.partition s.clustering key next ≡ Less) × KeysAscend s (next ∷ keys)

-- the entries of the sorted map of an accepted script's puts ascend by the order of their typed keys
abbrev pub EntriesAscend : Type 0
EntriesAscend = (s : Columns) (readers : ℕ) (bytes : List ℕ) (script : Script) → script_of s readers bytes ≡ Ok script
    → (keys : List Key) × AreOfKeys s keys (finite.entries (table_of (entries_of (puts_of script.batches)))) × KeysAscend s keys
