-- How values are written in scripts and in what is printed. This project's own.
use Rattle.std.specs.Prelude.{ℕ, ◌+◌, ◌/◌, ◌%◌, ◌==◌, nat_lt, Bool, true, false, List, [], ◌∷◌, ◌++◌, codes, if◌then◌else◌}
use Rattle.std.specs.Fmt.{signed_decimal}
use Rattle.key_types.specs.Kinds.{Kind, text, blob, boolean, tuple, reversed, Kinds, end, more, Val, number, bytes, truth, values, Vals, none, and}

-- each quote twice
abbrev pub quotes_doubled : List ℕ → List ℕ
quotes_doubled [] = []
quotes_doubled (b ∷ bs) = if b == 39 then 39 ∷ 39 ∷ quotes_doubled bs else b ∷ quotes_doubled bs

-- a text stands in quotes, and each quote in it is doubled
abbrev pub text_literal : List ℕ → List ℕ
text_literal bs = 39 ∷ (quotes_doubled bs ++ 39 ∷ [])

-- 0 to 9, then a to f
abbrev pub hex_digit : ℕ → ℕ
hex_digit n = if nat_lt n 10 then 48 + n else 87 + n

abbrev pub hex_digits : List ℕ → List ℕ
hex_digits [] = []
hex_digits (b ∷ bs) = hex_digit (b / 16) ∷ hex_digit (b % 16) ∷ hex_digits bs

-- a blob is written as 0x and two digits a byte
abbrev pub blob_literal : List ℕ → List ℕ
blob_literal bs = codes "0x" ++ hex_digits bs

abbrev pub boolean_literal : Bool → List ℕ
boolean_literal true = codes "true"
boolean_literal false = codes "false"

-- a value of the type: numbers in decimal, tuples like lists, a reversed type as the type itself
abbrev mutual
  pub literal : Kind → Val → List ℕ
  literal text (bytes b) = text_literal b
  literal blob (bytes b) = blob_literal b
  literal boolean (truth b) = boolean_literal b
  literal (tuple ts) (values vs) = 40 ∷ (literals ts vs ++ 41 ∷ [])
  literal (reversed t) v = literal t v
  literal _ (number n) = signed_decimal n
  literal _ _ = []

  -- components with a comma and a space between each two
  pub literals : Kinds → Vals → List ℕ
  literals (more t end) (and v none) = literal t v
  literals (more t ts) (and v vs) = literal t v ++ codes ", " ++ literals ts vs
  literals _ _ = []

-- a list of components in parentheses
abbrev pub list_literal : Kinds → Vals → List ℕ
list_literal ts vs = 40 ∷ (literals ts vs ++ 41 ∷ [])
