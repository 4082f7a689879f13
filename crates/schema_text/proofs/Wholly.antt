-- Columns are read exactly.
use Rattle.std.proofs.Common.{◌≡◌, ℕ, true, false, List, [], Option, Some, None, refl, arith, inl, inr}
use Rattle.std.specs.Prelude.{codes}
use Rattle.std.proofs.lemmas.Bool.Decides.{nat_tests}
use Rattle.key_types.specs.declared.schema.ValueType.{ValueType}
use Rattle.key_types.specs.Kinds.{Kinds, end}
use Rattle.grammar.specs.Exact.{Read, Exact, Viable}
use Rattle.grammar.specs.Reading.{then_read, Then, map_read, ends, IsEnd, IsOneOf, is_letter, sign_at, IsSign, NoSpace, spaces_at, AreSpaces}
use Rattle.grammar.proofs.Octets.{are_bytes}
use Rattle.grammar.proofs.Bind.{bind_exact}
use Rattle.grammar.proofs.First.{first_exact}
use Rattle.grammar.proofs.Map.{map_exact}
use Rattle.grammar.proofs.Tokens.{ends_exact}
use Rattle.grammar.proofs.Choices.{AfterWord, one_of_exact, spaces_exact}
use Rattle.grammar.proofs.Signs.{sign_exact, next_exact, Heads, sign_heads, then_heads, map_heads, heads_begin, begins_as, empty_begins, HasText, sign_text, token_text, end_text, map_text, then_text}
use Rattle.key_types.specs.Columns.{Columns}
use Rattle.schema_text.specs.Reading.{no_type_end, no_types_close, types_at, is_semicolon, closed_at, clustering_at, value_type_word_at, value_type_at, static_type_at, columns, behind_partition, columns_at}
use Rattle.schema_text.proofs.Relation.{first_value, other_values, IsValue, IsLast, IsStaticValue, IsStatic, IsClosed, IsClustering, IsTypes, IsEnding, IsBehindPartition, IsColumns}
use Rattle.schema_text.proofs.Exactly.{gap_end, Letter, as_letters, AfterKinds, token_letter, types_heads, types_text, types_exact}

letter_semicolon : (b : ℕ) → is_letter b ≡ true → is_semicolon b ≡ false
letter_semicolon b h = grind (arith, nat_tests)

-- ---- value types

abbrev AfterValue : ValueType → ℕ → Type 0
AfterValue _ b = no_type_end b ≡ false

value_exact : Exact value_type_at IsValue AfterValue
value_exact = bind_exact value_type_word_at (λ x. ends no_type_end x.0) (IsOneOf first_value other_values) (λ x. IsEnd x.0) AfterWord AfterValue
    (one_of_exact first_value other_values (are_bytes (codes "text") refl, are_bytes (codes "blob") refl) refl) (λ x. ends_exact no_type_end x.0) (λ x. end_text x.0)
    (λ x v bytes rest is h. empty_begins (AfterWord x) bytes rest is.1 (begins_as (λ b. no_type_end b ≡ false) (AfterWord x) (gap_end x.1) rest h))

value_word_heads : Heads Letter (IsOneOf first_value other_values)
value_word_heads a bytes (inl is) = token_letter 116 (codes "ext") refl is.0 bytes is.1
value_word_heads a bytes (inr is) = token_letter 98 (codes "lob") refl is.0 bytes is.1

value_heads : Heads Letter IsValue
value_heads = then_heads Letter (IsOneOf first_value other_values) (λ x. IsEnd x.0) value_word_heads

value_text : HasText IsValue
value_text =
    let t = token_text (codes "text") (are_bytes (codes "text") refl) in
    then_text (IsOneOf first_value other_values) (λ x. IsEnd x.0) ((first_value.1, t.0), t.1, inl (t.0, t.2, refl), t.3) (λ x. end_text x.0)

-- ---- the end

abbrev last_at : Option ValueType → Read (Option ValueType)
last_at f = map_read (λ _. f) (sign_at 41)

last_exact : (f : Option ValueType) → Exact (last_at f) (IsLast f) (λ _. NoSpace)
last_exact f = map_exact (λ _. f) (sign_at 41) (IsSign 41) (λ _. NoSpace) (λ _. NoSpace) (sign_exact 41 (omega arith)) (λ s c h. h) (λ s c h. h)

last_text : (f : Option ValueType) → HasText (IsLast f)
last_text f = map_text (λ _. f) (IsSign 41) (sign_text 41 (omega arith))

last_heads : (Holds : ℕ → Type 0) → Holds 41 → (f : Option ValueType) → Heads Holds (IsLast f)
last_heads Holds h f = map_heads Holds (λ _. f) (IsSign 41) (sign_heads 41 Holds h)

abbrev typed_at : Read (Option ValueType)
typed_at = then_read value_type_at (λ v. last_at (Some v))

abbrev IsTyped : Option ValueType → List ℕ → Type 0
IsTyped = Then IsValue (λ v. IsLast (Some v))

typed_exact : Exact typed_at IsTyped (λ _. NoSpace)
typed_exact = bind_exact value_type_at (λ v. last_at (Some v)) IsValue (λ v. IsLast (Some v)) AfterValue (λ _. NoSpace) value_exact (λ v. last_exact (Some v)) (λ v. last_text (Some v))
    (λ v f bytes rest is h. heads_begin (λ b. no_type_end b ≡ false) (IsLast (Some v)) (last_heads (λ b. no_type_end b ≡ false) refl (Some v)) f bytes rest is)

static_value_exact : Exact (then_read (sign_at 59) (λ _. typed_at)) IsStaticValue (λ _. NoSpace)
static_value_exact = next_exact (sign_at 59) (λ _. typed_at) (IsSign 59) (λ _. IsTyped) (λ _. NoSpace) (sign_exact 59 (omega arith)) (λ _. typed_exact)
    (λ _. then_text IsValue (λ v. IsLast (Some v)) value_text (λ v. last_text (Some v))) (λ _. then_heads NoSpace IsValue (λ v. IsLast (Some v)) (as_letters IsValue value_heads))

static_value_heads : (Holds : ℕ → Type 0) → Holds 59 → Heads Holds IsStaticValue
static_value_heads Holds h = then_heads Holds (IsSign 59) (λ _. IsTyped) (sign_heads 59 Holds h)

static_value_text : HasText IsStaticValue
static_value_text = then_text (IsSign 59) (λ _. IsTyped) (sign_text 59 (omega arith)) (λ _. then_text IsValue (λ v. IsLast (Some v)) value_text (λ v. last_text (Some v)))

pub viable_text : {A : Type 0} (Is : A → List ℕ → Type 0) → HasText Is → Viable Is []
viable_text Is h = (h.1, h.0, h.2, h.3)

static_exact : Exact static_type_at IsStatic (λ _. NoSpace)
static_exact = first_exact is_semicolon (then_read (sign_at 59) (λ _. typed_at)) (last_at None) IsStaticValue (IsLast None) (λ _. NoSpace) static_value_exact (last_exact None)
    (static_value_heads (λ b. is_semicolon b ≡ true) refl) (last_heads (λ b. is_semicolon b ≡ false) refl None) (viable_text IsStaticValue static_value_text)

static_heads : (Holds : ℕ → Type 0) → Holds 59 → Holds 41 → Heads Holds IsStatic
static_heads Holds h k f bytes (inl is) = static_value_heads Holds h f bytes is
static_heads Holds h k f bytes (inr is) = last_heads Holds k None f bytes is

static_text : HasText IsStatic
static_text = let t = last_text None in (t.0, t.1, inr t.2, t.3)

-- ---- clustering types

abbrev close_at : Kinds → Read Kinds
close_at ts = map_read (λ _. ts) (sign_at 59)

close_exact : (ts : Kinds) → Exact (close_at ts) (IsClosed ts) (λ _. NoSpace)
close_exact ts = map_exact (λ _. ts) (sign_at 59) (IsSign 59) (λ _. NoSpace) (λ _. NoSpace) (sign_exact 59 (omega arith)) (λ s c h. h) (λ s c h. h)

close_text : (ts : Kinds) → HasText (IsClosed ts)
close_text ts = map_text (λ _. ts) (IsSign 59) (sign_text 59 (omega arith))

close_heads : (Holds : ℕ → Type 0) → Holds 59 → (ts : Kinds) → Heads Holds (IsClosed ts)
close_heads Holds h ts = map_heads Holds (λ _. ts) (IsSign 59) (sign_heads 59 Holds h)

closed_exact : (fuel : ℕ) → Exact (closed_at fuel) (Then (IsTypes fuel) IsClosed) (λ _. NoSpace)
closed_exact fuel = bind_exact (types_at fuel) close_at (IsTypes fuel) IsClosed AfterKinds (λ _. NoSpace) (types_exact fuel) close_exact close_text
    (λ ts us bytes rest is h. heads_begin (λ b. no_types_close b ≡ false) (IsClosed ts) (close_heads (λ b. no_types_close b ≡ false) refl ts) us bytes rest is)

pub closed_heads : (fuel : ℕ) → Heads Letter (Then (IsTypes fuel) IsClosed)
closed_heads fuel = then_heads Letter (IsTypes fuel) IsClosed (types_heads fuel)

others : (fuel : ℕ) → Heads (λ b. is_semicolon b ≡ false) (Then (IsTypes fuel) IsClosed)
others fuel a bytes is = let p = closed_heads fuel a bytes is in (p.0, p.1, p.2, letter_semicolon p.0 p.3)

pub clustering_exact : (fuel : ℕ) → Exact (clustering_at fuel) (IsClustering fuel) (λ _. NoSpace)
clustering_exact fuel = first_exact is_semicolon (close_at end) (closed_at fuel) (IsClosed end) (Then (IsTypes fuel) IsClosed) (λ _. NoSpace) (close_exact end) (closed_exact fuel)
    (close_heads (λ b. is_semicolon b ≡ true) refl end) (others fuel) (viable_text (IsClosed end) (close_text end))

clustering_heads : (fuel : ℕ) → Heads NoSpace (IsClustering fuel)
clustering_heads fuel ts bytes (inl is) = close_heads NoSpace refl end ts bytes is
clustering_heads fuel ts bytes (inr is) = as_letters (Then (IsTypes fuel) IsClosed) (closed_heads fuel) ts bytes is

clustering_text : (fuel : ℕ) → HasText (IsClustering fuel)
clustering_text fuel = let t = close_text end in (t.0, t.1, inl t.2, t.3)

-- ---- columns

abbrev After : Columns → ℕ → Type 0
After _ b = NoSpace b

module _ (fuel : ℕ) (p : Kinds) where
  abbrev ending_at : Kinds → ValueType → Read Columns
  ending_at c v = map_read (λ f. columns p c v f) static_type_at

  ending_exact : (c : Kinds) (v : ValueType) → Exact (ending_at c v) (IsEnding p c v) After
  ending_exact c v = map_exact (λ f. columns p c v f) static_type_at IsStatic (λ _. NoSpace) After static_exact (λ s b h. h) (λ s b h. h)

  ending_text : (c : Kinds) (v : ValueType) → HasText (IsEnding p c v)
  ending_text c v = map_text (λ f. columns p c v f) IsStatic static_text

  valued_exact : (c : Kinds) → Exact (then_read value_type_at (ending_at c)) (Then IsValue (IsEnding p c)) After
  valued_exact c = bind_exact value_type_at (ending_at c) IsValue (IsEnding p c) AfterValue After value_exact (ending_exact c) (ending_text c)
      (λ v s bytes rest is h. heads_begin (λ b. no_type_end b ≡ false) (IsEnding p c v)
      (map_heads (λ b. no_type_end b ≡ false) (λ f. columns p c v f) IsStatic (static_heads (λ b. no_type_end b ≡ false) refl refl)) s bytes rest is)

  valued_text : (c : Kinds) → HasText (Then IsValue (IsEnding p c))
  valued_text c = then_text IsValue (IsEnding p c) value_text (ending_text c)

  abbrev clustered_at : Read Columns
  clustered_at = then_read (clustering_at fuel) (λ c. then_read value_type_at (ending_at c))

  abbrev IsClustered : Columns → List ℕ → Type 0
  IsClustered = Then (IsClustering fuel) (λ c. Then IsValue (IsEnding p c))

  clustered_exact : Exact clustered_at IsClustered After
  clustered_exact = next_exact (clustering_at fuel) (λ c. then_read value_type_at (ending_at c)) (IsClustering fuel) (λ c. Then IsValue (IsEnding p c)) After (clustering_exact fuel) valued_exact valued_text
      (λ c. then_heads NoSpace IsValue (IsEnding p c) (as_letters IsValue value_heads))

  clustered_text : HasText IsClustered
  clustered_text = then_text (IsClustering fuel) (λ c. Then IsValue (IsEnding p c)) (clustering_text fuel) valued_text

  behind_partition_exact : Exact (behind_partition fuel p) (IsBehindPartition fuel p) After
  behind_partition_exact = next_exact (sign_at 59) (λ _. clustered_at) (IsSign 59) (λ _. IsClustered) After (sign_exact 59 (omega arith)) (λ _. clustered_exact) (λ _. clustered_text)
      (λ _. then_heads NoSpace (IsClustering fuel) (λ c. Then IsValue (IsEnding p c)) (clustering_heads fuel))

  behind_partition_text : HasText (IsBehindPartition fuel p)
  behind_partition_text = then_text (IsSign 59) (λ _. IsClustered) (sign_text 59 (omega arith)) (λ _. clustered_text)

module _ (fuel : ℕ) where
  abbrev opened_at : Read Columns
  opened_at = then_read (types_at fuel) (behind_partition fuel)

  abbrev IsOpened : Columns → List ℕ → Type 0
  IsOpened = Then (IsTypes fuel) (IsBehindPartition fuel)

  opened_exact : Exact opened_at IsOpened After
  opened_exact = bind_exact (types_at fuel) (behind_partition fuel) (IsTypes fuel) (IsBehindPartition fuel) AfterKinds After (types_exact fuel) (behind_partition_exact fuel) (behind_partition_text fuel)
      (λ p s bytes rest is h. heads_begin (λ b. no_types_close b ≡ false) (IsBehindPartition fuel p)
      (then_heads (λ b. no_types_close b ≡ false) (IsSign 59) (λ _. IsClustered fuel p) (sign_heads 59 (λ b. no_types_close b ≡ false) refl)) s bytes rest is)

  opened_text : HasText IsOpened
  opened_text = then_text (IsTypes fuel) (IsBehindPartition fuel) (types_text fuel) (behind_partition_text fuel)

  abbrev signed_at : Read Columns
  signed_at = then_read (sign_at 40) (λ _. opened_at)

  abbrev IsSigned : Columns → List ℕ → Type 0
  IsSigned = Then (IsSign 40) (λ _. IsOpened)

  signed_exact : Exact signed_at IsSigned After
  signed_exact = next_exact (sign_at 40) (λ _. opened_at) (IsSign 40) (λ _. IsOpened) After (sign_exact 40 (omega arith)) (λ _. opened_exact) (λ _. opened_text)
      (λ _. then_heads NoSpace (IsTypes fuel) (IsBehindPartition fuel) (as_letters (IsTypes fuel) (types_heads fuel)))

  signed_text : HasText IsSigned
  signed_text = then_text (IsSign 40) (λ _. IsOpened) (sign_text 40 (omega arith)) (λ _. opened_text)

  pub columns_exact : Exact (columns_at fuel) (IsColumns fuel) (λ _. NoSpace)
  columns_exact = next_exact spaces_at (λ _. signed_at) AreSpaces (λ _. IsSigned) After spaces_exact (λ _. signed_exact) (λ _. signed_text)
      (λ _. then_heads NoSpace (IsSign 40) (λ _. IsOpened) (sign_heads 40 NoSpace refl))
