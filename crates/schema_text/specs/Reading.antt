-- How the code reads schemas from the front of bytes: only private contracts cite it. That it reads exactly the grammar is proved.
use Rattle.std.specs.Prelude.{ℕ, zero, suc, ◌==◌, ◌||◌, not, Bool, true, false, [], ◌∷◌, codes, Option, Some, None}
use Rattle.key_types.specs.declared.schema.ValueType.{ValueType}
use Rattle.key_types.specs.declared.schema.ValueType.TheVariants.{Text, Blob}
use Rattle.key_types.specs.declared.kinds.TypeList.{TypeList}
use Rattle.key_types.specs.Kinds.{Kind, tiny, small, int, big, text, blob, boolean, tuple, reversed, Kinds, end, more, kinds_of}
use Rattle.grammar.specs.Exact.{Read}
use Rattle.grammar.specs.Reading.{then_read, either, perhaps, map_read, ends, by_first, token, one_of, sign_at, spaces_at}
use Rattle.key_types.specs.Columns.{Columns}

-- a type of one word, and whether spaces stand behind it
abbrev pub simple_at : Read (Kind × Bool)
simple_at =
    one_of (codes "tinyint", tiny)
    ((codes "smallint", small) ∷ (codes "int", int) ∷ (codes "bigint", big) ∷ (codes "text", text) ∷ (codes "blob", blob) ∷ (codes "boolean", boolean) ∷ [])

-- a tuple of the types that are read so: it ends in a sign, so a word may follow at once
abbrev pub tuple_by : Read Kinds → Read (Kind × Bool)
tuple_by types =
    then_read (token true (codes "tuple")) (λ _. then_read (sign_at 60) (λ _. then_read types (λ ts. map_read (λ _. (tuple ts, true)) (sign_at 62))))

-- the first letter of `reversed`
abbrev pub is_r : ℕ → Bool
is_r b = b == 114

-- `reversed` where a word may follow, and whether spaces stand behind it
abbrev pub turn_at : Bool → Read (Option Bool)
turn_at true = perhaps 114 None (map_read Some (token true (codes "reversed")))
turn_at false = ends is_r None

-- the type, or the reversed one where `reversed` was read
abbrev pub type_with : Option Bool → Kind → Kind
type_with None t = t
type_with (Some s) t = reversed t

-- behind a type stands `,`, `;`, `>` or `)`
abbrev pub no_type_end : ℕ → Bool
no_type_end b = not (b == 44 || b == 59 || b == 62 || b == 41)

-- what stands behind a type, up to its end
abbrev pub type_closing_at : Bool → Kind → Read Kind
type_closing_at s t = then_read (turn_at s) (λ o. ends no_type_end (type_with o t))

-- a type, without `reversed` read so
abbrev pub kind_by : Read (Kind × Bool) → Read Kind
kind_by base = then_read base (λ x. type_closing_at x.1 x.0)

-- behind types stands `;`, `>` or `)`
abbrev pub no_types_close : ℕ → Bool
no_types_close b = not (b == 59 || b == 62 || b == 41)

-- a type and those behind it, where there are some
abbrev pub listed : Kind → Option Kinds → Kinds
listed t None = more t end
listed t (Some ts) = more t ts

-- further types in memory, where there are some
abbrev pub some_kinds : Option TypeList → Option Kinds
some_kinds None = None
some_kinds (Some ts) = Some (kinds_of ts)

-- a comma and further types, where one stands
abbrev pub more_by : Read Kinds → Read (Option Kinds)
more_by types = perhaps 44 None (map_read Some (then_read (sign_at 44) (λ _. types)))

-- what stands behind a type of a list, up to the end of the list
abbrev pub behind_by : Read Kinds → Kind → Read Kinds
behind_by types t = then_read (more_by types) (λ o. ends no_types_close (listed t o))

-- the fuel falls at each tuple and at each comma
abbrev mutual
  pub base_at : ℕ → Read (Kind × Bool)
  base_at zero = simple_at
  base_at (suc fuel) = either simple_at (tuple_by (types_at fuel))

  pub types_at : ℕ → Read Kinds
  types_at zero = then_read (kind_by simple_at) (λ t. ends no_types_close (more t end))
  types_at (suc fuel) = then_read (kind_by (base_at fuel)) (behind_by (types_at fuel))

-- the sign between two lists
abbrev pub is_semicolon : ℕ → Bool
is_semicolon b = b == 59

-- types and the semicolon behind them
abbrev pub closed_at : ℕ → Read Kinds
closed_at fuel = then_read (types_at fuel) (λ ts. map_read (λ _. ts) (sign_at 59))

-- the clustering types, or none, and the semicolon behind them
abbrev pub clustering_at : ℕ → Read Kinds
clustering_at fuel = by_first is_semicolon (map_read (λ _. end) (sign_at 59)) (closed_at fuel)

-- the word of a value type, and whether spaces stand behind it
abbrev pub value_type_word_at : Read (ValueType × Bool)
value_type_word_at = one_of (codes "text", Text) ((codes "blob", Blob) ∷ [])

-- a value type, and what may stand behind it
abbrev pub value_type_at : Read ValueType
value_type_at = then_read value_type_word_at (λ x. ends no_type_end x.0)

-- perhaps a static value type behind a semicolon, and the last sign
abbrev pub static_type_at : Read (Option ValueType)
static_type_at =
    by_first is_semicolon
    (then_read (sign_at 59) (λ _. then_read value_type_at (λ v. map_read (λ _. Some v) (sign_at 41))))
    (map_read (λ _. None) (sign_at 41))

-- these columns
abbrev pub columns : Kinds → Kinds → ValueType → Option ValueType → Columns
columns partition clustering value static_value = record { partition = partition; clustering = clustering; value = value; static_value = static_value }

-- what is read behind the partition types
abbrev pub behind_partition : ℕ → Kinds → Read Columns
behind_partition fuel p =
    then_read (sign_at 59) (λ _. then_read (clustering_at fuel) (λ c. then_read value_type_at (λ v. map_read (λ f. columns p c v f) static_type_at)))

-- the columns of a text, behind spaces
abbrev pub columns_at : ℕ → Read Columns
columns_at fuel = then_read spaces_at (λ _. then_read (sign_at 40) (λ _. then_read (types_at fuel) (behind_partition fuel)))
