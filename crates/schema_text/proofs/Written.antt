-- The canonical text of columns is a text of them.
use Rattle.std.proofs.Common.{◌≡◌, ℕ, zero, suc, List, [], ◌∷◌, ◌++◌, Option, Some, None, refl, sym, ◌∙◌, ap, subst, append_assoc}
use Rattle.std.specs.Prelude.{codes, replicate}
use Rattle.std.proofs.lemmas.List.{append-nil}
use Rattle.key_types.specs.declared.schema.ValueType.{ValueType}
use Rattle.key_types.specs.declared.schema.ValueType.TheVariants.{Text, Blob}
use Rattle.key_types.specs.Kinds.{Kind, tiny, small, int, big, text, blob, boolean, tuple, reversed, Kinds, end, more}
use Rattle.key_types.specs.Columns.{Columns}
use Rattle.schema_text.specs.Grammar.{Token, word, sign, type_tokens, list_tokens, value_token, static_tokens, column_tokens, IsSchemaText}
use Rattle.schema_text.specs.Canonical.{type_text, types_text, value_text, static_text, values_text, canonical}
use Rattle.schema_text.specs.Parts.{AreTextColumns}
use Rattle.schema_text.proofs.Spelled.{Before, NoWord, join, may_stand, before_spelled}

-- so many spaces may stand before these where a word stands before the spaces
abbrev Apart : ℕ → List Token → Type 0
Apart zero next = NoWord next
Apart (suc n) next = Unit {0}

word_written : (w : List ℕ) (n : ℕ) (next : List Token) → Apart n next → Before next (word w ∷ []) (w ++ replicate n 32)
word_written w zero next h = (zero, [], sym (append-nil (w ++ [])), may_stand w next h, refl)
word_written w (suc n) next h = (suc n, [], sym (append-nil (w ++ replicate (suc n) 32)), tt, refl)

sign_written : (c n : ℕ) (next : List Token) → Before next (sign c ∷ []) (c ∷ replicate n 32)
sign_written c n next = (n, [], ap (λ l. c ∷ l) (sym (append-nil (replicate n 32))), tt, refl)

-- a type with so many spaces behind it
abbrev Written : List Token → Kind → ℕ → Type 0
Written next t n = Before next (type_tokens t) (type_text t ++ replicate n 32)

bare : (next : List Token) (t : Kind) → Written next t 0 → Before next (type_tokens t) (type_text t)
bare next t h = subst (Before next (type_tokens t)) (append-nil (type_text t)) h

tuple_written : (ts : Kinds) (n : ℕ) (next : List Token) → Before (sign 62 ∷ next) (list_tokens ts) (types_text ts) → Written next (tuple ts) n
tuple_written ts n next h =
    let last = join next (list_tokens ts) (sign 62 ∷ []) (types_text ts) (62 ∷ replicate n 32) h (sign_written 62 n next) in
    let opened = join next (sign 60 ∷ []) (list_tokens ts ++ sign 62 ∷ []) (60 ∷ []) (types_text ts ++ 62 ∷ replicate n 32) (sign_written 60 0 ((list_tokens ts ++ sign 62 ∷ []) ++ next)) last in
    let all = join next (word (codes "tuple") ∷ []) (sign 60 ∷ (list_tokens ts ++ sign 62 ∷ [])) (codes "tuple") (60 ∷ (types_text ts ++ 62 ∷ replicate n 32)) (word_written (codes "tuple") 0 (sign 60 ∷ ((list_tokens ts ++ sign 62 ∷ []) ++ next)) tt) opened in
    subst (Before next (type_tokens (tuple ts))) (sym (append_assoc (codes "tuple<" ++ types_text ts) (codes ">") (replicate n 32) ∙ append_assoc (codes "tuple<") (types_text ts) (62 ∷ replicate n 32))) all

reversed_written : (t : Kind) (n : ℕ) (next : List Token) → Apart n next → Written (word (codes "reversed") ∷ next) t 1 → Written next (reversed t) n
reversed_written t n next h k =
    let both = join next (type_tokens t) (word (codes "reversed") ∷ []) (type_text t ++ 32 ∷ []) (codes "reversed" ++ replicate n 32) k (word_written (codes "reversed") n next h) in
    subst (Before next (type_tokens (reversed t))) (append_assoc (type_text t) (32 ∷ []) (codes "reversed" ++ replicate n 32) ∙ sym (append_assoc (type_text t) (codes " reversed") (replicate n 32))) both

mutual
  type_written : (t : Kind) (n : ℕ) (next : List Token) → Apart n next → Written next t n
  type_written tiny n next h = word_written (codes "tinyint") n next h
  type_written small n next h = word_written (codes "smallint") n next h
  type_written int n next h = word_written (codes "int") n next h
  type_written big n next h = word_written (codes "bigint") n next h
  type_written text n next h = word_written (codes "text") n next h
  type_written blob n next h = word_written (codes "blob") n next h
  type_written boolean n next h = word_written (codes "boolean") n next h
  type_written (tuple ts) n next h = tuple_written ts n next (types_written ts (sign 62 ∷ next) tt)
  type_written (reversed t) n next h = reversed_written t n next h (type_written t 1 (word (codes "reversed") ∷ next) tt)

  types_written : (ts : Kinds) (next : List Token) → NoWord next → Before next (list_tokens ts) (types_text ts)
  types_written end next h = refl
  types_written (more t end) next h = type_written t 0 next h
  types_written (more t (more u us)) next h =
      let comma = join next (sign 44 ∷ []) (list_tokens (more u us)) (44 ∷ 32 ∷ []) (types_text (more u us)) (sign_written 44 1 (list_tokens (more u us) ++ next)) (types_written (more u us) next h) in
      let first = bare (sign 44 ∷ (list_tokens (more u us) ++ next)) t (type_written t 0 (sign 44 ∷ (list_tokens (more u us) ++ next)) tt) in
      join next (type_tokens t) (sign 44 ∷ list_tokens (more u us)) (type_text t) (44 ∷ 32 ∷ types_text (more u us)) first comma

value_written : (v : ValueType) (next : List Token) → NoWord next → Before next (value_token v ∷ []) (value_text v)
value_written Text next h = word_written (codes "text") 0 next h
value_written Blob next h = word_written (codes "blob") 0 next h

abbrev ending : Option ValueType → List Token
ending f = static_tokens f ++ sign 41 ∷ []

static_written : (f : Option ValueType) → Before [] (ending f) (static_text f ++ codes ")")
static_written None = sign_written 41 0 []
static_written (Some v) =
    let last = join [] (value_token v ∷ []) (sign 41 ∷ []) (value_text v) (41 ∷ []) (value_written v (sign 41 ∷ []) tt) (sign_written 41 0 []) in
    join [] (sign 59 ∷ []) (value_token v ∷ sign 41 ∷ []) (59 ∷ 32 ∷ []) (value_text v ++ 41 ∷ []) (sign_written 59 1 (value_token v ∷ sign 41 ∷ [])) last

no_word : (f : Option ValueType) → NoWord (ending f ++ [])
no_word None = tt
no_word (Some v) = tt

module _ (s : Columns) where
  abbrev tail_tokens : List Token
  tail_tokens = value_token s.value ∷ ending s.static_value

  abbrev tail : List ℕ
  tail = value_text s.value ++ (static_text s.static_value ++ codes ")")

  tail_written : Before [] tail_tokens tail
  tail_written = join [] (value_token s.value ∷ []) (ending s.static_value) (value_text s.value) (static_text s.static_value ++ codes ")") (value_written s.value (ending s.static_value ++ []) (no_word s.static_value)) (static_written s.static_value)

  abbrev rows_tokens : List Token
  rows_tokens = list_tokens s.clustering ++ sign 59 ∷ tail_tokens

  abbrev rows : List ℕ
  rows = types_text s.clustering ++ 59 ∷ 32 ∷ tail

  rows_written : Before [] rows_tokens rows
  rows_written = join [] (list_tokens s.clustering) (sign 59 ∷ tail_tokens) (types_text s.clustering) (59 ∷ 32 ∷ tail) (types_written s.clustering (sign 59 ∷ (tail_tokens ++ [])) tt)
      (join [] (sign 59 ∷ []) tail_tokens (59 ∷ 32 ∷ []) tail (sign_written 59 1 (tail_tokens ++ [])) tail_written)

  abbrev all_bytes : List ℕ
  all_bytes = 40 ∷ (types_text s.partition ++ 59 ∷ 32 ∷ rows)

  all_written : Before [] (column_tokens s) all_bytes
  all_written = join [] (sign 40 ∷ []) (list_tokens s.partition ++ sign 59 ∷ rows_tokens) (40 ∷ []) (types_text s.partition ++ 59 ∷ 32 ∷ rows) (sign_written 40 0 ((list_tokens s.partition ++ sign 59 ∷ rows_tokens) ++ []))
      (join [] (list_tokens s.partition) (sign 59 ∷ rows_tokens) (types_text s.partition) (59 ∷ 32 ∷ rows) (types_written s.partition (sign 59 ∷ (rows_tokens ++ [])) tt)
      (join [] (sign 59 ∷ []) rows_tokens (59 ∷ 32 ∷ []) rows (sign_written 59 1 (rows_tokens ++ [])) rows_written))

  spelled : canonical s ≡ all_bytes
  spelled =
      append_assoc (codes "(" ++ types_text s.partition ++ codes "; ") (types_text s.clustering) (values_text s)
      ∙ append_assoc (codes "(" ++ types_text s.partition) (codes "; ") (types_text s.clustering ++ values_text s)
      ∙ ap (λ l. 40 ∷ (types_text s.partition ++ 59 ∷ 32 ∷ (types_text s.clustering ++ 59 ∷ 32 ∷ l))) (append_assoc (value_text s.value) (static_text s.static_value) (codes ")"))

  pub canonical_text : AreTextColumns s → IsSchemaText s (canonical s)
  canonical_text h = record {
    some = h.0;
    partition = h.1;
    clustering = h.2;
    before = 0;
    rest = canonical s;
    parts = refl;
    spelled = before_spelled (column_tokens s) (canonical s) (subst (Before [] (column_tokens s)) (sym spelled) all_written);
  }
