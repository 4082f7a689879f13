-- The canonical text of columns is at most twice as long as any text of them.
use Rattle.std.proofs.Common.{◌≡◌, ℕ, ◌+◌, ◌*◌, ◌≤◌, List, [], ◌∷◌, ◌++◌, length, Option, Some, None, refl, ◌∙◌, ap, arith, length-append}
use Rattle.std.specs.Prelude.{codes, replicate}
use Rattle.key_types.specs.declared.schema.ValueType.{ValueType}
use Rattle.key_types.specs.declared.schema.ValueType.TheVariants.{Text, Blob}
use Rattle.key_types.specs.Kinds.{Kind, tiny, small, int, big, text, blob, boolean, tuple, reversed, Kinds, end, more}
use Rattle.key_types.specs.Columns.{Columns}
use Rattle.schema_text.specs.Grammar.{Token, word, sign, spelling, type_tokens, list_tokens, value_token, static_tokens, column_tokens, AreSpelled, IsSchemaText}
use Rattle.schema_text.specs.Canonical.{type_text, types_text, rest_text, value_text, static_text, lists_text, values_text, canonical}

-- how many bytes the tokens have without the spaces
abbrev bare : List Token → ℕ
bare [] = 0
bare (t ∷ ts) = length (spelling t) + bare ts

bare_both : (xs ys : List Token) → bare (xs ++ ys) ≡ bare xs + bare ys
bare_both [] ys = omega arith
bare_both (x ∷ xs) ys = let h = bare_both xs ys in omega arith

fewest : (ts : List Token) (bytes : List ℕ) → AreSpelled ts bytes → bare ts ≤ length bytes
fewest [] bytes h = omega arith
fewest (t ∷ ts) bytes h =
    let p = fewest ts h.1 h.4 in
    let l = ap length h.2 ∙ length-append (spelling t ++ replicate h.0 32) h.1 in
    let m = length-append (spelling t) (replicate h.0 32) in
    omega arith

mutual
  type_short : (t : Kind) → length (type_text t) ≤ 2 * bare (type_tokens t)
  type_short tiny = omega arith
  type_short small = omega arith
  type_short int = omega arith
  type_short big = omega arith
  type_short text = omega arith
  type_short blob = omega arith
  type_short boolean = omega arith
  type_short (tuple ts) =
      let h = types_short ts in
      let l = length-append (codes "tuple<" ++ types_text ts) (codes ">") in
      let m = length-append (codes "tuple<") (types_text ts) in
      let n = bare_both (list_tokens ts) (sign 62 ∷ []) in
      omega arith
  type_short (reversed t) =
      let h = type_short t in
      let l = length-append (type_text t) (codes " reversed") in
      let n = bare_both (type_tokens t) (word (codes "reversed") ∷ []) in
      omega arith

  types_short : (ts : Kinds) → length (types_text ts) ≤ 2 * bare (list_tokens ts)
  types_short end = omega arith
  types_short (more t end) = let h = type_short t in let l = length-append (type_text t) [] in omega arith
  types_short (more t (more u us)) =
      let h = type_short t in
      let k = types_short (more u us) in
      let l = length-append (type_text t) (codes ", " ++ type_text u ++ rest_text us) in
      let n = bare_both (type_tokens t) (sign 44 ∷ list_tokens (more u us)) in
      omega arith

value_short : (v : ValueType) → length (value_text v) ≡ length (spelling (value_token v))
value_short Text = refl
value_short Blob = refl

static_short : (f : Option ValueType) → length (static_text f) ≤ 2 * bare (static_tokens f)
static_short None = omega arith
static_short (Some v) = let h = value_short v in omega arith

tokens_short : (s : Columns) → length (canonical s) ≤ 2 * bare (column_tokens s)
tokens_short s =
    let p = types_short s.partition in
    let c = types_short s.clustering in
    let v = value_short s.value in
    let f = static_short s.static_value in
    let tail = value_token s.value ∷ (static_tokens s.static_value ++ sign 41 ∷ []) in
    let a = bare_both (list_tokens s.partition) (sign 59 ∷ (list_tokens s.clustering ++ sign 59 ∷ tail)) in
    let b = bare_both (list_tokens s.clustering) (sign 59 ∷ tail) in
    let d = bare_both (static_tokens s.static_value) (sign 41 ∷ []) in
    let e = length-append (lists_text s) (values_text s) in
    let g = length-append (codes "(" ++ types_text s.partition ++ codes "; ") (types_text s.clustering) in
    let h = length-append (codes "(" ++ types_text s.partition) (codes "; ") in
    let i = length-append (codes "; " ++ value_text s.value ++ static_text s.static_value) (codes ")") in
    let j = length-append (codes "; " ++ value_text s.value) (static_text s.static_value) in
    omega arith

pub short : (s : Columns) (bytes : List ℕ) → IsSchemaText s bytes → length (canonical s) ≤ 2 * length bytes
short s bytes is =
    let t = tokens_short s in
    let f = fewest (column_tokens s) is.rest is.spelled in
    let l = ap length is.parts ∙ length-append (replicate is.before 32) is.rest in
    omega arith
