-- The text of a bound, as the code reads it: a list of the components of a partition, and behind it perhaps a list of
-- leading components of its rows. Values are read by the grammar of literals.
use Rattle.std.specs.Prelude.{◌≡◌, ℕ, ◌==◌, List, [], ◌∷◌, Option, Some, None, Result, Ok, Err, if◌then◌else◌}
use Rattle.grammar.specs.Exact.{Read}
use Rattle.grammar.specs.Reading.{map_read, perhaps, sign_at, spaces_at, then_read, whole}
use Rattle.key_types.specs.Columns.{Columns}
use Rattle.key_types.specs.Kinds.{Kinds, end, more, Vals, none, and}
use Rattle.byte_comparable.specs.Strings.{bound_of, string_of}
use Rattle.byte_comparable.specs.declared.strings.KeyError.{KeyError}
use Rattle.byte_comparable.specs.declared.strings.KeyError.TheVariants as key_error
use Rattle.byte_comparable.specs.declared.strings.Side.{Side}
use Rattle.byte_comparable.specs.declared.strings.Side.TheVariants.{Before, After}
use Rattle.key_text.specs.Marking.{Marked, marked_at}
use Rattle.table_reader.specs.declared.seek.BoundString.{BoundString}
use Rattle.scan_tool.specs.declared.bound.BoundStop.{BoundStop}
use Rattle.scan_tool.specs.declared.bound.BoundStop.TheVariants.{Refused, NoMemory}

-- ---- its components

-- components with a comma before each, as many as stand there; the first number is marked that passes its type
abbrev pub further_at : Kinds → Option ℕ → Read (Marked Vals)
further_at end mark bytes = Ok ((none, mark), bytes)
further_at (more t ts) mark bytes =
    perhaps 44 (none, mark) (then_read (sign_at 44) (λ _.
    then_read (marked_at t mark) (λ x. map_read (λ y. (and x.0 y.0, y.1)) (further_at ts x.1)))) bytes

-- the same with a comma between each two; none where the list is closed at once
abbrev pub leading_at : Kinds → Option ℕ → Read (Marked Vals)
leading_at end mark bytes = Ok ((none, mark), bytes)
leading_at (more t ts) mark [] =
    then_read (marked_at t mark) (λ x. map_read (λ y. (and x.0 y.0, y.1)) (further_at ts x.1)) []
leading_at (more t ts) mark (b ∷ bytes) =
    if b == 41 then Ok ((none, mark), b ∷ bytes)
    else then_read (marked_at t mark) (λ x. map_read (λ y. (and x.0 y.0, y.1)) (further_at ts x.1)) (b ∷ bytes)

-- in parentheses
abbrev pub leading_list : Kinds → Option ℕ → Read (Marked Vals)
leading_list ts mark =
    then_read (sign_at 40) (λ _. then_read (leading_at ts mark) (λ x. map_read (λ _. x) (sign_at 41)))

-- where a list stands, and else none
abbrev pub perhaps_list : Kinds → Option ℕ → Read (Marked Vals)
perhaps_list ts mark = perhaps 40 (none, mark) (leading_list ts mark)

-- the components of a bound: those of its partition, and leading ones of its rows
abbrev pub bound_at : Columns → Option ℕ → Read (Marked (Vals × Vals))
bound_at columns mark =
    then_read (leading_list columns.partition mark) (λ x.
    map_read (λ y. ((x.0, y.0), y.1)) (perhaps_list columns.clustering x.1))

-- the same of a whole text, before which spaces may stand
abbrev pub whole_bound : Columns → List ℕ → Result (Marked (Vals × Vals)) ℕ
whole_bound columns text = whole (then_read spaces_at (λ _. bound_at columns None)) text

-- ---- its strings

-- the string on a side of the rows that have these components
abbrev pub IsSideString : Side → Kinds → Vals → Option (List ℕ) → Type 0
IsSideString side ts components None = ⊥
IsSideString side ts components (Some string) = bound_of side ts components ≡ Ok string

-- the string of a bound within its partition; a lower one without components of rows has none
abbrev pub IsWithin : Side → Kinds → Vals → Option (List ℕ) → Type 0
IsWithin Before ts none string = string ≡ None
IsWithin Before ts (and v vs) string = IsSideString Before ts (and v vs) string
IsWithin After ts components string = IsSideString After ts components string

-- the strings of a bound are those of components of its partition, of which there are all, and of leading ones of its
-- rows; each fits its type, and no string has over 1,024 bytes
abbrev pub AreBoundStrings : Columns → Side → Vals → Vals → BoundString → Type 0
AreBoundStrings columns side partition clustering bound =
    (string_of columns.partition partition ≡ Ok bound.partition)
    × IsWithin side columns.clustering clustering bound.clustering

-- the components have no such strings
abbrev pub HasNoBound : Columns → Side → Vals → Vals → Type 0
HasNoBound columns side partition clustering =
    (bound : BoundString) → AreBoundStrings columns side partition clustering bound → ⊥

-- the bound's strings, or that there are none; memory may run out
abbrev pub HasBound : Columns → Side → Vals → Vals → Result BoundString KeyError → Type 0
HasBound columns side partition clustering (Ok bound) = AreBoundStrings columns side partition clustering bound
HasBound columns side partition clustering (Err key_error.WrongCount) = HasNoBound columns side partition clustering
HasBound columns side partition clustering (Err (key_error.WrongType at)) = HasNoBound columns side partition clustering
HasBound columns side partition clustering (Err (key_error.TooLong size)) = HasNoBound columns side partition clustering
HasBound columns side partition clustering (Err key_error.NoMemory) = Unit {0}

-- The text names the bound of these strings on a side: it is read whole, each number is of its type, and the strings
-- are of its components.
pub record NamesBound (columns : Columns) (side : Side) (text : List ℕ) (bound : BoundString) : Type 0 where
  pub partition : Vals
  pub clustering : Vals
  pub read : whole_bound columns text ≡ Ok ((partition, clustering), None)
  pub strings : AreBoundStrings columns side partition clustering bound

-- the text names no bound
abbrev pub NamesNoBound : Columns → Side → List ℕ → Type 0
NamesNoBound columns side text = (bound : BoundString) → NamesBound columns side text bound → ⊥

-- the strings of the bound that the text names, or that it names none; memory may run out
abbrev pub ReadsBound : Columns → Side → List ℕ → Result BoundString BoundStop → Type 0
ReadsBound columns side text (Ok bound) = NamesBound columns side text bound
ReadsBound columns side text (Err Refused) = NamesNoBound columns side text
ReadsBound columns side text (Err NoMemory) = Unit {0}

-- ---- a range

-- one end of a range: without a text it has none
abbrev pub NamesEnd : Columns → Side → Option (List ℕ) → Option BoundString → Type 0
NamesEnd columns side None bound = bound ≡ None
NamesEnd columns side (Some text) None = ⊥
NamesEnd columns side (Some text) (Some bound) = NamesBound columns side text bound

-- a text of the two names no bound
abbrev pub NamesNoRange : Columns → Option (List ℕ) → Option (List ℕ) → Type 0
NamesNoRange columns from to =
    (lower upper : Option BoundString) → NamesEnd columns Before from lower → NamesEnd columns After to upper → ⊥

-- the end that a text names, or that it names none; memory may run out
abbrev pub ReadsEnd : Columns → Side → Option (List ℕ) → Result (Option BoundString) BoundStop → Type 0
ReadsEnd columns side text (Ok bound) = NamesEnd columns side text bound
ReadsEnd columns side text (Err Refused) = (bound : Option BoundString) → NamesEnd columns side text bound → ⊥
ReadsEnd columns side text (Err NoMemory) = Unit {0}

-- both ends, or that a text of the two names none; memory may run out
abbrev pub ReadsRange :
    Columns → Option (List ℕ) → Option (List ℕ) → Result (Option BoundString × Option BoundString) BoundStop → Type 0
ReadsRange columns from to (Ok range) = NamesEnd columns Before from range.0 × NamesEnd columns After to range.1
ReadsRange columns from to (Err Refused) = NamesNoRange columns from to
ReadsRange columns from to (Err NoMemory) = Unit {0}
