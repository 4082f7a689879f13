-- The grammar of literals, by their types. This project's own.
use Rattle.std.specs.Prelude.{◌≡◌, ℕ, List, [], ◌++◌, replicate}
use Rattle.key_types.specs.Kinds.{Kind, tiny, small, int, big, text, blob, boolean, tuple, reversed, Kinds, end, more, Val, number, bytes, truth, values, Vals, none, and}
use Rattle.key_types.specs.Literals.{text_literal, boolean_literal}
use Rattle.grammar.specs.Reading.{IsSign}
use Rattle.key_text.specs.Tokens.{IsNumber, IsBlob}

-- a value of one token, with numbers of any size; the bytes of a text may be any here, and are UTF-8 where the whole text is
abbrev pub IsValueToken : Kind → Val → List ℕ → Type 0
IsValueToken tiny (number z) token = IsNumber z token
IsValueToken small (number z) token = IsNumber z token
IsValueToken int (number z) token = IsNumber z token
IsValueToken big (number z) token = IsNumber z token
IsValueToken text (bytes b) token = token ≡ text_literal b
IsValueToken blob (bytes b) token = IsBlob b token
IsValueToken boolean (truth b) token = token ≡ boolean_literal b
IsValueToken _ _ _ = ⊥

-- a token with spaces behind it, or none
abbrev pub IsSpaced : (List ℕ → Type 0) → List ℕ → Type 0
IsSpaced Is bs = (token : List ℕ) × (n : ℕ) × Is token × (bs ≡ token ++ replicate n 32)

-- in parentheses
abbrev pub IsEnclosed : (List ℕ → Type 0) → List ℕ → Type 0
IsEnclosed Inside bs = (left : List ℕ) × (inside : List ℕ) × (right : List ℕ) × IsSign 40 tt left × Inside inside × IsSign 41 tt right × (bs ≡ left ++ (inside ++ right))

-- a value of the type; a tuple is written like a list
abbrev mutual
  pub IsLiteral : Kind → Val → List ℕ → Type 0
  IsLiteral (tuple ts) (values vs) bs = IsEnclosed (AreLiterals ts vs) bs
  IsLiteral (tuple ts) _ bs = ⊥
  IsLiteral (reversed t) v bs = IsLiteral t v bs
  IsLiteral t v bs = IsSpaced (IsValueToken t v) bs

  -- components with a comma between each two
  pub AreLiterals : Kinds → Vals → List ℕ → Type 0
  AreLiterals end none bs = bs ≡ []
  AreLiterals (more t ts) (and v vs) bs = (first : List ℕ) × (rest : List ℕ) × IsLiteral t v first × AreFurther ts vs rest × (bs ≡ first ++ rest)
  AreLiterals _ _ bs = ⊥

  -- components with a comma before each
  pub AreFurther : Kinds → Vals → List ℕ → Type 0
  AreFurther end none bs = bs ≡ []
  AreFurther (more t ts) (and v vs) bs =
      (comma : List ℕ) × (first : List ℕ) × (rest : List ℕ) × IsSign 44 tt comma × IsLiteral t v first × AreFurther ts vs rest × (bs ≡ comma ++ (first ++ rest))
  AreFurther _ _ bs = ⊥

-- a list of components
abbrev pub IsList : Kinds → Vals → List ℕ → Type 0
IsList ts vs bs = IsEnclosed (AreLiterals ts vs) bs

-- the bytes are a text of what is so written: spaces may stand before it too
abbrev pub IsText : {A : Type 0} → (A → List ℕ → Type 0) → A → List ℕ → Type 0
IsText Is a bs = (n : ℕ) × (rest : List ℕ) × (bs ≡ replicate n 32 ++ rest) × Is a rest
