-- How the code reads lines. That it reads exactly the grammar is a law.
use Rattle.std.specs.Prelude.{ℕ, ◌-◌, ◌==◌, ◌&&◌, ◌||◌, Bool, true, false, ⊤, List, [], ◌∷◌, length, codes, Option, Some, None, Result, Ok, Err, if◌then◌else◌}
use Rattle.key_types.specs.declared.schema.ValueType.{ValueType}
use Rattle.key_types.specs.Kinds.{Val, Vals}
use Rattle.grammar.specs.Exact.{Read}
use Rattle.grammar.specs.Reading.{then_read, map_read, by_first, ends, token, sign_at, spaces_at, whole}
use Rattle.key_text.specs.Marking.{Marked, marked_at, marked_list}
use Rattle.key_types.specs.Columns.{Columns}
use Rattle.byte_comparable.specs.Order.{Key}
use Rattle.script_text.specs.declared.script.LineCause.{LineCause}
use Rattle.script_text.specs.declared.script.LineCause.TheVariants.{BadText, OutOfRange}
use Rattle.script_text.specs.Grammar.{LineText, no_text, put_text, get_text, sync_text, value_kind}

-- ---- one reading after another, the first number marked that passes its type

-- a reading without numbers
abbrev pub unmarked : {A : Type 0} → Read A → Option ℕ → Read (Marked A)
unmarked r mark = map_read (λ a. (a, mark)) r

-- what was read seen as another value
abbrev pub map_marked : {A B : Type 0} → (A → B) → (Option ℕ → Read (Marked A)) → Option ℕ → Read (Marked B)
map_marked f r mark = map_read (λ x. (f x.0, x.1)) (r mark)

-- two readings, seen as one value
abbrev pub paired : {A B C : Type 0} → (A → B → C) → (Option ℕ → Read (Marked A)) → (Option ℕ → Read (Marked B)) → Option ℕ → Read (Marked C)
paired f one two mark = then_read (one mark) (λ x. map_read (λ y. (f x.0 y.0, y.1)) (two x.1))

-- ---- what stands behind a key

-- every byte
abbrev pub any_byte : ℕ → Bool
any_byte b = true

-- the end of the line
abbrev pub line_end_at : Read ⊤
line_end_at = ends any_byte tt

-- the end of the line, behind a key with a value of the type
abbrev pub asked_at : ValueType → Option ℕ → Read (Marked ⊤)
asked_at t = unmarked line_end_at

-- an equals sign and a value of the type
abbrev pub set_at : ValueType → Option ℕ → Read (Marked Val)
set_at t = paired (λ _ v. v) (unmarked (sign_at 61)) (marked_at (value_kind t))

-- ---- keys, and what stands behind them

-- what stands behind the components of a partition: those of a row or none, and what is behind these
abbrev pub RestText : Type 0 → Type 0
RestText A = Option Vals × A

-- a key, and what stands behind it
abbrev pub KeyedText : Type 0 → Type 0
KeyedText A = Vals × RestText A

-- the first sign of a list
abbrev pub is_open : ℕ → Bool
is_open b = b == 40

module _ {A : Type 0} (s : Columns) (tail : ValueType → Option ℕ → Read (Marked A)) where
  -- the components of a row, and what stands behind them
  abbrev pub row_rest_at : Option ℕ → Read (Marked (RestText A))
  row_rest_at = paired (λ cs v. (Some cs, v)) (marked_list s.clustering) (tail s.value)

  -- the word `static`, and what stands behind it
  abbrev pub static_at : ValueType → Option ℕ → Read (Marked (RestText A))
  static_at t = paired (λ _ v. (None, v)) (unmarked (token true (codes "static"))) (tail t)

  -- a row, or where there is a static type, perhaps `static`
  abbrev pub rest_by : Option ValueType → Option ℕ → Read (Marked (RestText A))
  rest_by None mark = row_rest_at mark
  rest_by (Some t) mark = by_first is_open (row_rest_at mark) (static_at t mark)

  -- the components of a partition and what is behind them
  abbrev pub keyed_at : Option ℕ → Read (Marked (KeyedText A))
  keyed_at = paired (λ vs rest. (vs, rest)) (marked_list s.partition) (rest_by s.static_value)

  -- a word before a key
  abbrev pub verb_at : List ℕ → Option ℕ → Read (Marked (KeyedText A))
  verb_at word = paired (λ _ x. x) (unmarked (token true word)) keyed_at

-- ---- what a line says, without spaces before

-- the key that stands before something
abbrev pub key_of : {A : Type 0} → KeyedText A → Key
key_of x = record { partition = x.0; clustering = x.1.0 }

-- that it puts
abbrev pub put_said : KeyedText Val → LineText
put_said x = put_text (record { key = key_of x; value = x.1.1 })

-- that it asks for a key
abbrev pub get_said : KeyedText ⊤ → LineText
get_said x = get_text (key_of x)

abbrev pub put_said_at : Columns → Option ℕ → Read (Marked LineText)
put_said_at s = map_marked put_said (verb_at s set_at (codes "put"))

abbrev pub get_said_at : Columns → Option ℕ → Read (Marked LineText)
get_said_at s = map_marked get_said (verb_at s asked_at (codes "get"))

abbrev pub sync_said_at : Option ℕ → Read (Marked LineText)
sync_said_at = paired (λ _ _. sync_text) (unmarked (token true (codes "sync"))) (unmarked line_end_at)

-- the first letters of `put` and of `get`
abbrev pub is_p : ℕ → Bool
is_p b = b == 112

abbrev pub is_g : ℕ → Bool
is_g b = b == 103

-- a line that says something
abbrev pub command_at : Columns → Option ℕ → Read (Marked LineText)
command_at s mark = by_first is_p (put_said_at s mark) (by_first is_g (get_said_at s mark) (sync_said_at mark))

-- what a whole line says, and the first number of it that passes its type
abbrev pub whole_line : Columns → List ℕ → Result (Marked LineText) ℕ
whole_line s line = whole (then_read spaces_at (λ _. command_at s None)) line

-- ---- a line

-- two dashes in front
abbrev pub is_comment : List ℕ → Bool
is_comment (a ∷ b ∷ bs) = a == 45 && b == 45
is_comment _ = false

-- nothing but spaces
abbrev pub is_blank : List ℕ → Bool
is_blank [] = true
is_blank (b ∷ bs) = b == 32 && is_blank bs

-- a dash in front
abbrev pub has_dash : List ℕ → Bool
has_dash [] = false
has_dash (b ∷ bs) = b == 45

-- what is told of a line of this length
abbrev pub told : ℕ → Result (Marked LineText) ℕ → Result LineText LineCause
told n (Ok (said, None)) = Ok said
told n (Ok (said, Some left)) = Err (OutOfRange (n - left))
told n (Err left) = Err (BadText (n - left))

-- what a line says; one dash alone goes on as a comment
abbrev pub line_of : Columns → List ℕ → Result LineText LineCause
line_of s line =
    if is_comment line || is_blank line then Ok no_text
    else (if has_dash line then Err (BadText 1) else told (length line) (whole_line s line))
