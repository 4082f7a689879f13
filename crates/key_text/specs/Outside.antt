-- Which number of a literal passes its type first. This project's own.
use Rattle.std.specs.Prelude.{◌≡◌, ℕ, ◌+◌, ◌⊎◌, ℤ, List, ◌++◌, length, replicate}
use Rattle.key_types.specs.Kinds.{Kind, tuple, reversed, Kinds, end, more, Val, number, values, Vals, and, Fits}
use Rattle.grammar.specs.Reading.{IsSign}
use Rattle.key_text.specs.Grammar.{IsLiteral, AreFurther}

-- each number in the value is one of its type
abbrev mutual
  pub NumbersFit : Kind → Val → Type 0
  NumbersFit (tuple ts) (values vs) = AllNumbersFit ts vs
  NumbersFit (reversed t) v = NumbersFit t v
  NumbersFit t (number z) = Fits t (number z)
  NumbersFit _ _ = Unit {0}

  pub AllNumbersFit : Kinds → Vals → Type 0
  AllNumbersFit (more t ts) (and v vs) = NumbersFit t v × AllNumbersFit ts vs
  AllNumbersFit _ _ = Unit {0}

-- of a component and those behind it: the first number that passes its type is in the component, or else behind it
abbrev pub ItemPasses : Kind → (List ℕ → ℕ → Type 0) → (Vals → List ℕ → Type 0) → (List ℕ → ℕ → Type 0) → List ℕ → ℕ → Type 0
ItemPasses t Here Behind Further bs at =
    (first : List ℕ) × (rest : List ℕ) × (bs ≡ first ++ rest)
    × ((Here first at × (vs : Vals) × Behind vs rest) ⊎ ((v : Val) × (k : ℕ) × IsLiteral t v first × NumbersFit t v × Further rest k × (at ≡ length first + k)))

-- behind a sign
abbrev pub SignPasses : ℕ → (List ℕ → ℕ → Type 0) → List ℕ → ℕ → Type 0
SignPasses c Inside bs at = (left : List ℕ) × (rest : List ℕ) × (k : ℕ) × IsSign c tt left × Inside rest k × (bs ≡ left ++ rest) × (at ≡ length left + k)

-- before the last sign of a list
abbrev pub LastPasses : (List ℕ → ℕ → Type 0) → List ℕ → ℕ → Type 0
LastPasses Inside bs at = (inside : List ℕ) × (right : List ℕ) × Inside inside at × IsSign 41 tt right × (bs ≡ inside ++ right)

-- the bytes are a literal of the type with numbers of any size, and its first number that passes its type begins at this place
abbrev mutual
  pub ValuePasses : Kind → List ℕ → ℕ → Type 0
  ValuePasses (tuple ts) bs at = SignPasses 40 (LastPasses (AnyPasses ts)) bs at
  ValuePasses (reversed t) bs at = ValuePasses t bs at
  ValuePasses t bs at = (z : ℤ) × IsLiteral t (number z) bs × (Fits t (number z) → ⊥) × (at ≡ 0)

  pub AnyPasses : Kinds → List ℕ → ℕ → Type 0
  AnyPasses end bs at = ⊥
  AnyPasses (more t ts) bs at = ItemPasses t (ValuePasses t) (AreFurther ts) (FurtherPasses ts) bs at

  pub FurtherPasses : Kinds → List ℕ → ℕ → Type 0
  FurtherPasses end bs at = ⊥
  FurtherPasses (more t ts) bs at = SignPasses 44 (ItemPasses t (ValuePasses t) (AreFurther ts) (FurtherPasses ts)) bs at

-- of a list of components
abbrev pub ListPasses : Kinds → List ℕ → ℕ → Type 0
ListPasses ts bs at = SignPasses 40 (LastPasses (AnyPasses ts)) bs at

-- behind the spaces of a whole text
abbrev pub TextPasses : (List ℕ → ℕ → Type 0) → List ℕ → ℕ → Type 0
TextPasses Inside bs at = (n : ℕ) × (rest : List ℕ) × (k : ℕ) × (bs ≡ replicate n 32 ++ rest) × Inside rest k × (at ≡ n + k)
