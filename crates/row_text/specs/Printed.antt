-- What is printed of rows and static values. This project's own.
use Rattle.std.specs.Prelude.{◌≡◌, ℕ, ◌+◌, true, false, List, [], ◌∷◌, ◌++◌, Option, Some, None, Result, Ok, Err, codes}
use Rattle.std.specs.Fmt.{decimal}
use Rattle.key_types.specs.declared.schema.ValueType.{ValueType}
use Rattle.key_types.specs.Columns.{Columns}
use Rattle.key_types.specs.Kinds.{Vals, EachFits}
use Rattle.key_types.specs.Table.{Entry}
use Rattle.byte_comparable.specs.Encoding.{key_string}
use Rattle.byte_comparable.specs.Order.{Key, KeyFits, string_of_key}
use Rattle.key_decode.specs.Reading.{values_at}
use Rattle.key_text.specs.Written.{row_literal, static_literal}
use Rattle.flush_walk.specs.Entries.{is_row, row_count}

-- ---- lines

-- the line of a row: its partition's components, those within it, and its value
abbrev pub row_line : Columns → Vals → Vals → List ℕ → List ℕ
row_line columns partition clustering value =
    row_literal columns.partition columns.clustering columns.value partition clustering value ++ codes "\n"

-- the line of a static value of this type
abbrev pub static_line : Columns → ValueType → Vals → List ℕ → List ℕ
static_line columns type partition value = static_literal columns.partition type partition value ++ codes "\n"

-- ---- the line of an entry, whose key is a string

abbrev pub static_by : Columns → Option ValueType → Vals → List ℕ → List ℕ
static_by columns None partition value = []
static_by columns (Some type) partition value = static_line columns type partition value

abbrev pub row_by : Columns → Vals → Result (Vals × List ℕ) ℕ → List ℕ → List ℕ
row_by columns partition (Ok found) value = row_line columns partition found.0 value
row_by columns partition (Err left) value = []

-- nothing behind the partition's string names the static value
abbrev pub line_behind : Columns → Vals → List ℕ → List ℕ → List ℕ
line_behind columns partition [] value = static_by columns columns.static_value partition value
line_behind columns partition (b ∷ bs) value = row_by columns partition (values_at columns.clustering (b ∷ bs)) value

abbrev pub line_by : Columns → Result (Vals × List ℕ) ℕ → List ℕ → List ℕ
line_by columns (Ok found) value = line_behind columns found.0 found.1 value
line_by columns (Err left) value = []

-- the components are read from the string: that the line names those which the string is made of is the law below
abbrev pub entry_line : Columns → Entry → List ℕ
entry_line columns entry = line_by columns (values_at columns.partition entry.0) entry.1

abbrev pub entry_lines : Columns → List Entry → List ℕ
entry_lines columns [] = []
entry_lines columns (entry ∷ entries) = entry_line columns entry ++ entry_lines columns entries

-- the last line: how many rows there are
abbrev pub count_line : ℕ → List ℕ
count_line n = codes "rows " ++ decimal n ++ codes "\n"

-- the lines of the entries in order, and the last line, which counts rows alone
abbrev pub rows_text : Columns → List Entry → List ℕ
rows_text columns entries = entry_lines columns entries ++ count_line (row_count columns entries)

-- ---- the same by typed keys, as the headline says it

-- the line of a typed key and its value: of a row, or of a static value
abbrev pub key_line : Columns → Vals → Option Vals → List ℕ → List ℕ
key_line columns partition (Some clustering) value = row_line columns partition clustering value
key_line columns partition None value = static_by columns columns.static_value partition value

-- how many rows a key is
abbrev pub rows_of_key : Option Vals → ℕ
rows_of_key (Some clustering) = 1
rows_of_key None = 0

-- these are the lines of the entries in order: each names the typed key of which the entry's string is, and so many are rows
abbrev pub AreKeyLines : Columns → List Entry → List ℕ → ℕ → Type 0
AreKeyLines columns [] lines rows = (lines ≡ []) × (rows ≡ 0)
AreKeyLines columns (entry ∷ entries) lines rows =
    (key : Key) × (more : List ℕ) × (others : ℕ)
    × KeyFits columns.partition columns.clustering key × (entry.0 ≡ string_of_key columns.partition columns.clustering key)
    × (lines ≡ key_line columns key.partition key.clustering entry.1 ++ more) × (rows ≡ rows_of_key key.clustering + others)
    × AreKeyLines columns entries more others

-- the lines of the entries, and the last line
abbrev pub IsTableText : Columns → List Entry → List ℕ → Type 0
IsTableText columns entries text = (lines : List ℕ) × (rows : ℕ) × AreKeyLines columns entries lines rows × (text ≡ lines ++ count_line rows)

-- ---- the law

-- the entry of a row prints the line of the row's components, and that of a static value the line of its partition's
pub record KeysAreNamed : Type 0 where
  pub row : (columns : Columns) (partition clustering : Vals) (value : List ℕ) → EachFits columns.partition partition → EachFits columns.clustering clustering
      → (entry_line columns (key_string columns.partition partition ++ key_string columns.clustering clustering, value) ≡ row_line columns partition clustering value)
      × (is_row columns (key_string columns.partition partition ++ key_string columns.clustering clustering, value) ≡ true)
  pub static_part : (columns : Columns) (type : ValueType) (partition : Vals) (value : List ℕ) → columns.static_value ≡ Some type → EachFits columns.partition partition
      → (entry_line columns (key_string columns.partition partition, value) ≡ static_line columns type partition value)
      × (is_row columns (key_string columns.partition partition, value) ≡ false)
