-- What is answered where a text is read as a literal. This project's own.
use Rattle.std.specs.Prelude.{ℕ, List, Result, Ok, Err}
use Rattle.grammar.specs.Exact.{Longest}
use Rattle.key_types.specs.declared.kinds.Value.{Value}
use Rattle.key_types.specs.declared.kinds.ValueList.{ValueList}
use Rattle.key_types.specs.Kinds.{Kind, Kinds, Fits, EachFits, value_of, values_of}
use Rattle.key_text.specs.declared.reading.LiteralError.{LiteralError}
use Rattle.key_text.specs.declared.reading.LiteralError.TheVariants.{BadToken, OutOfRange, NoMemory}
use Rattle.key_text.specs.Grammar.{IsLiteral, IsList, IsText}
use Rattle.key_text.specs.Outside.{ValuePasses, ListPasses, TextPasses}

-- over what is written how, which values fit, and where the first number passes its type
module _ {A : Type 0} (Is : A → List ℕ → Type 0) (Fit : A → Type 0) (Outside : List ℕ → ℕ → Type 0) where
  -- a text of a value that fits is read as this value; BadToken is answered for no text of the grammar, at the length of its longest prefix that begins one; OutOfRange for a text of it, at the first number that passes its type
  abbrev pub ReadsBy : {X : Type 0} → (X → A) → List ℕ → Result X LiteralError → Type 0
  ReadsBy view bs (Ok x) = IsText Is (view x) bs × Fit (view x)
  ReadsBy view bs (Err (BadToken at)) = ((a : A) → IsText Is a bs → ⊥) × Longest (IsText Is) bs at
  ReadsBy view bs (Err (OutOfRange at)) = TextPasses Outside bs at
  ReadsBy view bs (Err NoMemory) = Unit {0}

-- a value of the type
abbrev pub ReadsValue : Kind → List ℕ → Result Value LiteralError → Type 0
ReadsValue t = ReadsBy (IsLiteral t) (Fits t) (ValuePasses t) value_of

-- a list of components, one of each type
abbrev pub ReadsList : Kinds → List ℕ → Result ValueList LiteralError → Type 0
ReadsList ts = ReadsBy (IsList ts) (EachFits ts) (ListPasses ts) values_of
