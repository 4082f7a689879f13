-- What bytes are encodings, and how bytes that are none are refused. The shapes are made after ByteComparable.md of Apache Cassandra.
use Rattle.std.specs.Prelude.{◌≡◌, ℕ, ◌+◌, ◌-◌, ◌<◌, ◌==◌, if◌then◌else◌, List, ◌++◌, length, take, Result, Ok, Err}
use Rattle.key_types.specs.Kinds.{Kind, text, blob, tuple, reversed, Kinds, end, more, Val, values, Vals, none, and, Fits, EachFits, value_of, values_of}
use Rattle.key_types.specs.declared.kinds.Value.{Value}
use Rattle.key_types.specs.declared.kinds.ValueList.{ValueList}
use Rattle.byte_comparable.specs.Encoding.{encoding, key_string}
use Rattle.key_decode.specs.declared.decoding.DecodeError.{DecodeError}
use Rattle.key_decode.specs.declared.decoding.DecodeError.TheVariants.{Truncated, BadByte, BadUtf8, NoMemory}

-- a value of the type, where a text may be any bytes
abbrev mutual
  pub FitsAsBytes : Kind → Val → Type 0
  FitsAsBytes text v = Fits blob v
  FitsAsBytes (tuple ts) (values vs) = EachFitsAsBytes ts vs
  FitsAsBytes (tuple ts) _ = ⊥
  FitsAsBytes (reversed t) v = FitsAsBytes t v
  FitsAsBytes t v = Fits t v

  pub EachFitsAsBytes : Kinds → Vals → Type 0
  EachFitsAsBytes end none = Unit {0}
  EachFitsAsBytes (more t ts) (and v vs) = FitsAsBytes t v × EachFitsAsBytes ts vs
  EachFitsAsBytes _ _ = ⊥

-- over what a value is, what its bytes are and which values fit as bytes
module _ {A : Type 0} (spelled : A → List ℕ) (AsBytes : A → Type 0) where
  -- the bytes are a shape: the encoding of a value, but for the demand that texts are UTF-8
  abbrev pub IsShape : List ℕ → Type 0
  IsShape bs = (a : A) × AsBytes a × (bs ≡ spelled a)

  -- the bytes begin a shape
  abbrev pub BeginsShape : List ℕ → Type 0
  BeginsShape bs = (more : List ℕ) × IsShape (bs ++ more)

  -- Ok on encodings of values that fit; Truncated on a proper beginning of a shape; BadByte at the byte with which no shape goes on; BadUtf8 on a shape of no value that fits
  abbrev pub DecodesBy : {X : Type 0} → (X → A) → (A → Type 0) → List ℕ → Result X DecodeError → Type 0
  DecodesBy view Fit bs (Ok x) = Fit (view x) × (bs ≡ spelled (view x))
  DecodesBy view Fit bs (Err Truncated) = BeginsShape bs × (IsShape bs → ⊥)
  DecodesBy view Fit bs (Err (BadByte at)) = (at < length bs) × BeginsShape (take at bs) × (BeginsShape (take (at + 1) bs) → ⊥)
  DecodesBy view Fit bs (Err BadUtf8) = IsShape bs × ((a : A) → Fit a → bs ≡ spelled a → ⊥)
  DecodesBy view Fit bs (Err NoMemory) = Unit {0}

-- a value from its encoding
abbrev pub Decodes : Kind → List ℕ → Result Value DecodeError → Type 0
Decodes t = DecodesBy (encoding t) (FitsAsBytes t) value_of (Fits t)

-- the values of all components from their string
abbrev pub DecodesAll : Kinds → List ℕ → Result ValueList DecodeError → Type 0
DecodesAll ts = DecodesBy (key_string ts) (EachFitsAsBytes ts) values_of (EachFits ts)

-- the refusal where so many of all bytes are left
abbrev pub refusal_of : ℕ → ℕ → DecodeError
refusal_of all left = if left == 0 then Truncated else BadByte (all - left)

-- bytes that are refused are the encoding of no value that fits
abbrev pub RefusesBytes : {X A : Type 0} → (A → List ℕ) → (A → Type 0) → List ℕ → Result X DecodeError → Type 0
RefusesBytes spelled Fit bs (Ok x) = Unit {0}
RefusesBytes spelled Fit bs (Err NoMemory) = Unit {0}
RefusesBytes {X} {A} spelled Fit bs (Err e) = (a : A) → Fit a → bs ≡ spelled a → ⊥
