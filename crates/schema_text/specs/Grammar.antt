-- The grammar of the texts of schemas: the tokens of the columns, with spaces around them. This project's own.
use Rattle.std.specs.Prelude.{◌≡◌, ℕ, zero, Bool, true, false, List, [], ◌∷◌, ◌++◌, replicate, codes, Option, Some, None}
use Rattle.key_types.specs.declared.schema.ValueType.{ValueType}
use Rattle.key_types.specs.declared.schema.ValueType.TheVariants.{Text, Blob}
use Rattle.key_types.specs.Kinds.{Kind, tiny, small, int, big, text, blob, boolean, tuple, reversed, Kinds, end, more}
use Rattle.key_types.specs.Columns.{Columns}

-- a word made of letters, or one of the signs ( ) < > ; ,
pub data Token : Type 0 where
  word : List ℕ → Token
  sign : ℕ → Token

-- the bytes of a token
abbrev pub spelling : Token → List ℕ
spelling (word letters) = letters
spelling (sign byte) = byte ∷ []

-- the tokens of a type; those of several types with a comma between each two
abbrev mutual
  pub type_tokens : Kind → List Token
  type_tokens tiny = word (codes "tinyint") ∷ []
  type_tokens small = word (codes "smallint") ∷ []
  type_tokens int = word (codes "int") ∷ []
  type_tokens big = word (codes "bigint") ∷ []
  type_tokens text = word (codes "text") ∷ []
  type_tokens blob = word (codes "blob") ∷ []
  type_tokens boolean = word (codes "boolean") ∷ []
  type_tokens (tuple ts) = word (codes "tuple") ∷ sign 60 ∷ (list_tokens ts ++ sign 62 ∷ [])
  type_tokens (reversed t) = type_tokens t ++ word (codes "reversed") ∷ []

  pub list_tokens : Kinds → List Token
  list_tokens end = []
  list_tokens (more t end) = type_tokens t
  list_tokens (more t ts) = type_tokens t ++ sign 44 ∷ list_tokens ts

-- the word of a value type
abbrev pub value_token : ValueType → Token
value_token Text = word (codes "text")
value_token Blob = word (codes "blob")

-- the static value type behind a semicolon, where there is one
abbrev pub static_tokens : Option ValueType → List Token
static_tokens None = []
static_tokens (Some v) = sign 59 ∷ value_token v ∷ []

-- ( partition types ; clustering types ; value type ), and before the last sign perhaps ; static value type
abbrev pub column_tokens : Columns → List Token
column_tokens s =
    sign 40 ∷ (list_tokens s.partition ++ sign 59 ∷ (list_tokens s.clustering ++ sign 59 ∷ value_token s.value ∷ (static_tokens s.static_value ++ sign 41 ∷ [])))

-- a tuple has a component, and a type is followed by at most one `reversed`, which `behind` says of the type around
abbrev mutual
  pub IsType : Kind → Bool → Type 0
  IsType (tuple end) behind = ⊥
  IsType (tuple ts) behind = AreTypes ts
  IsType (reversed t) true = ⊥
  IsType (reversed t) false = IsType t true
  IsType _ behind = Unit {0}

  pub AreTypes : Kinds → Type 0
  AreTypes end = Unit {0}
  AreTypes (more t ts) = IsType t false × AreTypes ts

-- there is a type
abbrev pub IsSome : Kinds → Type 0
IsSome end = ⊥
IsSome (more t ts) = Unit {0}

-- so many spaces may stand between a token and those behind it: two words don't touch
abbrev pub MayStand : Token → ℕ → List Token → Type 0
MayStand (word _) zero (word _ ∷ _) = ⊥
MayStand _ _ _ = Unit {0}

-- the tokens, each with spaces behind it or none
abbrev pub AreSpelled : List Token → List ℕ → Type 0
AreSpelled [] bytes = bytes ≡ []
AreSpelled (t ∷ ts) bytes = (n : ℕ) × (rest : List ℕ) × (bytes ≡ spelling t ++ replicate n 32 ++ rest) × MayStand t n ts × AreSpelled ts rest

-- the bytes are a text of these columns: spaces may stand before, between and behind all tokens
pub record IsSchemaText (s : Columns) (bytes : List ℕ) : Type 0 where
  pub some : IsSome s.partition
  pub partition : AreTypes s.partition
  pub clustering : AreTypes s.clustering
  pub before : ℕ
  pub rest : List ℕ
  pub parts : bytes ≡ replicate before 32 ++ rest
  pub spelled : AreSpelled (column_tokens s) rest
