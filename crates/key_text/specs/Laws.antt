-- What holds of the texts of values. This project's own.
use Rattle.std.specs.Prelude.{◌≡◌, List, ℕ, Result, Ok, Err, IsTrue}
use Rattle.std.specs.Str.{is_utf8}
use Rattle.key_types.specs.declared.kinds.Value.{Value}
use Rattle.key_types.specs.declared.kinds.ValueList.{ValueList}
use Rattle.key_types.specs.Kinds.{Kind, Kinds, Val, Vals, Fits, EachFits, value_of, values_of}
use Rattle.key_types.specs.Literals.{literal, list_literal}
use Rattle.key_text.specs.declared.reading.LiteralError.{LiteralError}
use Rattle.key_text.specs.declared.reading.LiteralError.TheVariants.{NoMemory}
use Rattle.key_text.specs.Grammar.{IsLiteral, IsList, IsText}
use Rattle.key_text.specs.Outside.{ValuePasses, ListPasses, TextPasses}
use Rattle.key_text.specs.Answers.{ReadsValue, ReadsList}

-- this was read, unless memory ran out
abbrev pub IsLiteralRead : {X A : Type 0} → (X → A) → A → Result X LiteralError → Type 0
IsLiteralRead view a (Ok x) = view x ≡ a
IsLiteralRead view a (Err NoMemory) = Unit {0}
IsLiteralRead view a (Err _) = ⊥

-- the laws of the texts of values
pub record LiteralTexts : Type 0 where
  -- what is written of a value that fits is a text of it, and so of a list
  pub value_text : (t : Kind) (v : Val) → Fits t v → IsText (IsLiteral t) v (literal t v)
  pub list_text : (ts : Kinds) (vs : Vals) → EachFits ts vs → IsText (IsList ts) vs (list_literal ts vs)
  -- what is written is UTF-8, as what is read has to be
  pub value_utf8 : (t : Kind) (v : Val) → Fits t v → IsTrue (is_utf8 (literal t v))
  pub list_utf8 : (ts : Kinds) (vs : Vals) → EachFits ts vs → IsTrue (is_utf8 (list_literal ts vs))
  -- a text is of at most one value of a type, and of at most one list
  pub value_one : (t : Kind) (v w : Val) (bs : List ℕ) → IsText (IsLiteral t) v bs → IsText (IsLiteral t) w bs → v ≡ w
  pub list_one : (ts : Kinds) (vs ws : Vals) (bs : List ℕ) → IsText (IsList ts) vs bs → IsText (IsList ts) ws bs → vs ≡ ws
  -- a text in which a number passes its type is of no value that fits, and of no list of such values
  pub value_outside : (t : Kind) (v : Val) (bs : List ℕ) (at : ℕ) → TextPasses (ValuePasses t) bs at → IsText (IsLiteral t) v bs → Fits t v → ⊥
  pub list_outside : (ts : Kinds) (vs : Vals) (bs : List ℕ) (at : ℕ) → TextPasses (ListPasses ts) bs at → IsText (IsList ts) vs bs → EachFits ts vs → ⊥
  -- so what is written is read back as the same value, and as the same list
  pub value_back : (t : Kind) (v : Val) (result : Result Value LiteralError) → Fits t v → ReadsValue t (literal t v) result → IsLiteralRead value_of v result
  pub list_back : (ts : Kinds) (vs : Vals) (result : Result ValueList LiteralError) → EachFits ts vs → ReadsList ts (list_literal ts vs) result → IsLiteralRead values_of vs result
