-- The grammar of schemas as the readings go, with types nested as deep as the fuel allows.
use Rattle.std.proofs.Common.{ℕ, zero, suc, Bool, true, false, List, [], ◌∷◌, Option, Some, None}
use Rattle.std.specs.Prelude.{codes}
use Rattle.key_types.specs.declared.schema.ValueType.{ValueType}
use Rattle.key_types.specs.declared.schema.ValueType.TheVariants.{Text, Blob}
use Rattle.key_types.specs.Kinds.{Kind, tiny, small, int, big, text, blob, boolean, tuple, Kinds, end, more}
use Rattle.grammar.specs.Reading.{Then, Either, Perhaps, Mapped, IsEnd, IsOneOf, IsToken, IsSign, AreSpaces}
use Rattle.key_types.specs.Columns.{Columns}
use Rattle.schema_text.specs.Reading.{type_with, listed, columns}

abbrev pub first_type : List ℕ × Kind
first_type = (codes "tinyint", tiny)

abbrev pub other_types : List (List ℕ × Kind)
other_types = (codes "smallint", small) ∷ (codes "int", int) ∷ (codes "bigint", big) ∷ (codes "text", text) ∷ (codes "blob", blob) ∷ (codes "boolean", boolean) ∷ []

abbrev pub IsSimple : Kind × Bool → List ℕ → Type 0
IsSimple = IsOneOf first_type other_types

abbrev pub IsTupleOf : Kinds → Kind × Bool → List ℕ → Type 0
IsTupleOf ts = Mapped (λ _. (tuple ts, true)) (IsSign 62)

abbrev pub IsTuple : (Kinds → List ℕ → Type 0) → Kind × Bool → List ℕ → Type 0
IsTuple Types = Then (IsToken (codes "tuple")) (λ _. Then (IsSign 60) (λ _. Then Types IsTupleOf))

abbrev pub IsTurn : Bool → Option Bool → List ℕ → Type 0
IsTurn true = Perhaps None (Mapped Some (IsToken (codes "reversed")))
IsTurn false = IsEnd None

abbrev pub IsClosing : Kind × Bool → Kind → List ℕ → Type 0
IsClosing x = Then (IsTurn x.1) (λ o. IsEnd (type_with o x.0))

abbrev pub IsKindBy : (Kind × Bool → List ℕ → Type 0) → Kind → List ℕ → Type 0
IsKindBy Base = Then Base IsClosing

abbrev pub IsFurther : (Kinds → List ℕ → Type 0) → Option Kinds → List ℕ → Type 0
IsFurther Types = Mapped Some (Then (IsSign 44) (λ _. Types))

abbrev pub IsMoreBy : (Kinds → List ℕ → Type 0) → Option Kinds → List ℕ → Type 0
IsMoreBy Types = Perhaps None (IsFurther Types)

abbrev pub IsBehind : (Kinds → List ℕ → Type 0) → Kind → Kinds → List ℕ → Type 0
IsBehind Types t = Then (IsMoreBy Types) (λ o. IsEnd (listed t o))

abbrev mutual
  pub IsBase : ℕ → Kind × Bool → List ℕ → Type 0
  IsBase zero = IsSimple
  IsBase (suc fuel) = Either IsSimple (IsTuple (IsTypes fuel))

  pub IsTypes : ℕ → Kinds → List ℕ → Type 0
  IsTypes zero = Then (IsKindBy IsSimple) (λ t. IsEnd (more t end))
  IsTypes (suc fuel) = Then (IsKindBy (IsBase fuel)) (IsBehind (IsTypes fuel))

abbrev pub IsClosed : Kinds → Kinds → List ℕ → Type 0
IsClosed ts = Mapped (λ _. ts) (IsSign 59)

abbrev pub IsClustering : ℕ → Kinds → List ℕ → Type 0
IsClustering fuel = Either (IsClosed end) (Then (IsTypes fuel) IsClosed)

abbrev pub first_value : List ℕ × ValueType
first_value = (codes "text", Text)

abbrev pub other_values : List (List ℕ × ValueType)
other_values = (codes "blob", Blob) ∷ []

abbrev pub IsValue : ValueType → List ℕ → Type 0
IsValue = Then (IsOneOf first_value other_values) (λ x. IsEnd x.0)

abbrev pub IsLast : Option ValueType → Option ValueType → List ℕ → Type 0
IsLast f = Mapped (λ _. f) (IsSign 41)

abbrev pub IsStaticValue : Option ValueType → List ℕ → Type 0
IsStaticValue = Then (IsSign 59) (λ _. Then IsValue (λ v. IsLast (Some v)))

abbrev pub IsStatic : Option ValueType → List ℕ → Type 0
IsStatic = Either IsStaticValue (IsLast None)

abbrev pub IsEnding : Kinds → Kinds → ValueType → Columns → List ℕ → Type 0
IsEnding p c v = Mapped (λ f. columns p c v f) IsStatic

abbrev pub IsBehindPartition : ℕ → Kinds → Columns → List ℕ → Type 0
IsBehindPartition fuel p = Then (IsSign 59) (λ _. Then (IsClustering fuel) (λ c. Then IsValue (IsEnding p c)))

abbrev pub IsColumns : ℕ → Columns → List ℕ → Type 0
IsColumns fuel = Then AreSpaces (λ _. Then (IsSign 40) (λ _. Then (IsTypes fuel) (IsBehindPartition fuel)))
