-- The grammar of the lines of a script, in its own words. This project's own.
use Rattle.std.specs.Prelude.{◌≡◌, ◌⊎◌, ℕ, List, ◌++◌, replicate, Bool, codes, Option, Some, None}
use Rattle.key_types.specs.declared.schema.ValueType.{ValueType}
use Rattle.key_types.specs.declared.schema.ValueType.TheVariants.{Text, Blob}
use Rattle.key_types.specs.Kinds.{Kind, text, blob, Val, Vals, Fits}
use Rattle.grammar.specs.Reading.{IsSign, IsToken}
use Rattle.key_text.specs.Grammar.{IsLiteral, IsList, IsText}
use Rattle.key_types.specs.Columns.{Columns}
use Rattle.byte_comparable.specs.Order.{Key, KeyFits}

-- what a line puts: a key, which is a row's or names a partition's static value, and the value
pub record PutText : Type 0 where
  pub key : Key
  pub value : Val

-- what a line says: nothing; or it puts; or it asks for a key; or it ends a batch
pub data LineText : Type 0 where
  no_text : LineText
  put_text : PutText → LineText
  get_text : Key → LineText
  sync_text : LineText

-- ---- keys

-- a word with the spaces behind it, or none
abbrev pub IsSpacedWord : List ℕ → List ℕ → Type 0
IsSpacedWord word bs = (spaced : Bool) × IsToken word spaced bs

-- what stands behind the components of a partition: those of a row; or, where there is a static type, the word `static`
abbrev pub IsWithinText : Columns → Option Vals → List ℕ → Type 0
IsWithinText s (Some cs) bs = IsList s.clustering cs bs
IsWithinText s None bs = (t : ValueType) × (s.static_value ≡ Some t) × IsSpacedWord (codes "static") bs

-- the components of a partition, and what stands behind them
abbrev pub IsKeyText : Columns → Key → List ℕ → Type 0
IsKeyText s key bs = (list : List ℕ) × (within : List ℕ) × IsList s.partition key.partition list × IsWithinText s key.clustering within × (bs ≡ list ++ within)

-- ---- values

-- values of columns are written like those of keys
abbrev pub value_kind : ValueType → Kind
value_kind Text = text
value_kind Blob = blob

-- an equals sign and a value of the type
abbrev pub IsSet : ValueType → Val → List ℕ → Type 0
IsSet t v bs = (equals : List ℕ) × (value : List ℕ) × IsSign 61 tt equals × IsLiteral (value_kind t) v value × (bs ≡ equals ++ value)

-- the type of the value behind a key: that of rows, or that of static values
abbrev pub IsTypeOf : Columns → Option Vals → ValueType → Type 0
IsTypeOf s (Some cs) t = t ≡ s.value
IsTypeOf s None t = s.static_value ≡ Some t

-- ---- lines

-- `put`, a key, and what it is set to
abbrev pub IsPut : Columns → PutText → List ℕ → Type 0
IsPut s p bs =
    (t : ValueType) × (word : List ℕ) × (key : List ℕ) × (set : List ℕ)
    × IsSpacedWord (codes "put") word × IsKeyText s p.key key × IsTypeOf s p.key.clustering t × IsSet t p.value set × (bs ≡ word ++ (key ++ set))

-- `get` and a key
abbrev pub IsGet : Columns → Key → List ℕ → Type 0
IsGet s asked bs = (word : List ℕ) × (key : List ℕ) × IsSpacedWord (codes "get") word × IsKeyText s asked key × (bs ≡ word ++ key)

-- a line that says something, without spaces before
abbrev pub IsCommand : Columns → LineText → List ℕ → Type 0
IsCommand s no_text bs = ⊥
IsCommand s (put_text p) bs = IsPut s p bs
IsCommand s (get_text key) bs = IsGet s key bs
IsCommand s sync_text bs = IsSpacedWord (codes "sync") bs

-- two dashes, and anything behind them
abbrev pub IsComment : List ℕ → Type 0
IsComment bs = (rest : List ℕ) × (bs ≡ codes "--" ++ rest)

-- spaces, or nothing
abbrev pub IsBlank : List ℕ → Type 0
IsBlank bs = (n : ℕ) × (bs ≡ replicate n 32)

-- a line says nothing, or something with spaces before
abbrev pub IsLine : Columns → LineText → List ℕ → Type 0
IsLine s no_text bs = IsComment bs ⊎ IsBlank bs
IsLine s (put_text p) bs = IsText (IsCommand s) (put_text p) bs
IsLine s (get_text key) bs = IsText (IsCommand s) (get_text key) bs
IsLine s sync_text bs = IsText (IsCommand s) sync_text bs

-- ---- what fits

-- the key's components fit their types, and the value its own
abbrev pub PutFits : Columns → PutText → Type 0
PutFits s p = KeyFits s.partition s.clustering p.key × ((t : ValueType) × IsTypeOf s p.key.clustering t × Fits (value_kind t) p.value)

-- so of a line
abbrev pub LineFits : Columns → LineText → Type 0
LineFits s no_text = Unit {0}
LineFits s (put_text p) = PutFits s p
LineFits s (get_text key) = KeyFits s.partition s.clustering key
LineFits s sync_text = Unit {0}
