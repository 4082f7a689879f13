-- Columns that are read are those of a text of the grammar, in both directions.
use Rattle.std.proofs.Common.{◌≡◌, ℕ, ◌≤◌, Bool, List, [], ◌∷◌, ◌++◌, Option, Some, None, refl, sym, ◌∙◌, ap, subst, append_assoc, inl, inr}
use Rattle.std.specs.Prelude.{codes, replicate}
use Rattle.std.proofs.lemmas.List.{append-nil}
use Rattle.key_types.specs.declared.schema.ValueType.{ValueType}
use Rattle.key_types.specs.declared.schema.ValueType.TheVariants.{Text, Blob}
use Rattle.key_types.specs.Kinds.{Kinds, end, more}
use Rattle.grammar.specs.Reading.{IsWord, IsSign}
use Rattle.key_types.specs.Columns.{Columns}
use Rattle.schema_text.specs.Grammar.{Token, word, sign, list_tokens, value_token, static_tokens, column_tokens, AreTypes, IsSome, IsSchemaText}
use Rattle.schema_text.specs.Reading.{columns}
use Rattle.schema_text.proofs.Relation.{IsTypes, IsClustering, IsValue, IsStatic, IsColumns}
use Rattle.schema_text.proofs.Spelled.{Before, NoWord, no_word_open, join, split, word_before, word_back, sign_before, sign_back, spelled_before, before_spelled}
use Rattle.schema_text.proofs.Named.{fuel_all, types_listed, types_back}

-- ---- parts

clustering_named : (fuel : ℕ) (c : Kinds) (bytes after : List ℕ) (ts : List Token) → IsClustering fuel c bytes → Before [] ts after → AreTypes c × Before [] (list_tokens c ++ sign 59 ∷ ts) (bytes ++ after)
clustering_named fuel c bytes after ts (inl is) h =
    subst (λ (k : Kinds). AreTypes k × Before [] (list_tokens k ++ sign 59 ∷ ts) (bytes ++ after)) (sym is.2) (tt, join [] (sign 59 ∷ []) ts bytes after (sign_before 59 bytes (ts ++ []) is.1) h)
clustering_named fuel c bytes after ts (inr (us, a, b, types, closed, e)) h =
    let p = types_listed fuel us a (sign 59 ∷ (ts ++ [])) types tt in
    let signed = join [] (sign 59 ∷ []) ts b after (sign_before 59 b (ts ++ []) closed.1) h in
    let both = join [] (list_tokens us) (sign 59 ∷ ts) a (b ++ after) p.2 signed in
    let all : bytes ++ after ≡ a ++ (b ++ after) = ap (λ l. l ++ after) e ∙ append_assoc a b after in
    subst (λ (k : Kinds). AreTypes k × Before [] (list_tokens k ++ sign 59 ∷ ts) (bytes ++ after)) (sym closed.2) (p.1, subst (Before [] (list_tokens us ++ sign 59 ∷ ts)) (sym all) both)

clustering_unnamed : (fuel : ℕ) (c : Kinds) (bytes : List ℕ) (ts : List Token) → fuel_all c ≤ fuel → AreTypes c → Before [] (list_tokens c ++ sign 59 ∷ ts) bytes
    → (a : List ℕ) × (b : List ℕ) × (bytes ≡ a ++ b) × IsClustering fuel c a × Before [] ts b
clustering_unnamed fuel end bytes ts f is h =
    let p = split [] (sign 59 ∷ []) ts bytes h in
    (p.0, p.1, p.2, inl (tt, sign_back 59 p.0 (ts ++ []) p.3, refl), p.4)
clustering_unnamed fuel (more t us) bytes ts f is h =
    let p = split [] (list_tokens (more t us)) (sign 59 ∷ ts) bytes h in
    let q = split [] (sign 59 ∷ []) ts p.1 p.4 in
    let types = types_back fuel (more t us) p.0 (sign 59 ∷ (ts ++ [])) f tt is p.3 in (
      p.0 ++ q.0,
      q.1,
      p.2 ∙ ap (λ l. p.0 ++ l) q.2 ∙ sym (append_assoc p.0 q.0 q.1),
      inr (more t us, p.0, q.0, types, (tt, sign_back 59 q.0 (ts ++ []) q.3, refl), refl),
      q.4,
    )

value_word : (w : List ℕ) (v : ValueType) (next : List Token) → value_token v ≡ word w → (a : ValueType × Bool) (bytes : List ℕ) → IsWord (w, v) a bytes → NoWord next → Before next (value_token a.0 ∷ []) bytes
value_word w v next e a bytes is none =
    subst (λ (x : ValueType × Bool). Before next (value_token x.0 ∷ []) bytes) (sym is.2)
    (subst (λ (t : Token). Before next (t ∷ []) bytes) (sym e) (word_before w is.0 bytes next is.1 (no_word_open is.0 next none)))

value_named : (v : ValueType) (bytes : List ℕ) (next : List Token) → IsValue v bytes → NoWord next → Before next (value_token v ∷ []) bytes
value_named v bytes next (a, front, rest, inl is, ended, e) none =
    let all : bytes ≡ front = e ∙ ap (λ l. front ++ l) ended.1 ∙ append-nil front in
    subst (λ (x : ValueType). Before next (value_token x ∷ []) bytes) (sym ended.0) (subst (Before next (value_token a.0 ∷ [])) (sym all) (value_word (codes "text") Text next refl a front is none))
value_named v bytes next (a, front, rest, inr is, ended, e) none =
    let all : bytes ≡ front = e ∙ ap (λ l. front ++ l) ended.1 ∙ append-nil front in
    subst (λ (x : ValueType). Before next (value_token x ∷ []) bytes) (sym ended.0) (subst (Before next (value_token a.0 ∷ [])) (sym all) (value_word (codes "blob") Blob next refl a front is none))

value_unnamed : (v : ValueType) (bytes : List ℕ) (next : List Token) → Before next (value_token v ∷ []) bytes → IsValue v bytes
value_unnamed Text bytes next h = let w = word_back (codes "text") bytes next h in ((Text, w.0), bytes, [], inl (w.0, w.1, refl), (refl, refl), sym (append-nil bytes))
value_unnamed Blob bytes next h = let w = word_back (codes "blob") bytes next h in ((Blob, w.0), bytes, [], inr (w.0, w.1, refl), (refl, refl), sym (append-nil bytes))

abbrev ending_tokens : Option ValueType → List Token
ending_tokens f = static_tokens f ++ sign 41 ∷ []

static_named : (f : Option ValueType) (bytes : List ℕ) → IsStatic f bytes → Before [] (ending_tokens f) bytes
static_named f bytes (inr is) = subst (λ (x : Option ValueType). Before [] (ending_tokens x) bytes) (sym is.2) (sign_before 41 bytes [] is.1)
static_named f bytes (inl (u, a, b, semicolon, (v, c, d, value, closed, g), e)) =
    let last = join [] (value_token v ∷ []) (sign 41 ∷ []) c d (value_named v c (sign 41 ∷ []) value tt) (sign_before 41 d [] closed.1) in
    let both = join [] (sign 59 ∷ []) (value_token v ∷ sign 41 ∷ []) a (c ++ d) (sign_before 59 a (value_token v ∷ sign 41 ∷ []) semicolon) last in
    subst (λ (x : Option ValueType). Before [] (ending_tokens x) bytes) (sym closed.2) (subst (Before [] (ending_tokens (Some v))) (sym (e ∙ ap (λ l. a ++ l) g)) both)

static_unnamed : (f : Option ValueType) (bytes : List ℕ) → Before [] (ending_tokens f) bytes → IsStatic f bytes
static_unnamed None bytes h = inr (tt, sign_back 41 bytes [] h, refl)
static_unnamed (Some v) bytes h =
    let p = split [] (sign 59 ∷ []) (value_token v ∷ sign 41 ∷ []) bytes h in
    let q = split [] (value_token v ∷ []) (sign 41 ∷ []) p.1 p.4 in
    inl (tt, p.0, p.1, sign_back 59 p.0 (value_token v ∷ sign 41 ∷ []) p.3, (v, q.0, q.1, value_unnamed v q.0 (sign 41 ∷ []) q.3, (tt, sign_back 41 q.1 [] q.4, refl), q.2), p.2)

-- no word stands behind a value type
no_word : (f : Option ValueType) → NoWord (ending_tokens f ++ [])
no_word None = tt
no_word (Some v) = tt

-- ---- whole texts

abbrev tail_tokens : ValueType → Option ValueType → List Token
tail_tokens v f = value_token v ∷ ending_tokens f

module _ (fuel : ℕ) where
  named_by : (p c : Kinds) (v : ValueType) (f : Option ValueType) (o b s d e g : List ℕ) → IsSign 40 tt o → IsTypes fuel p b → IsSign 59 tt s → IsClustering fuel c d → IsValue v e → IsStatic f g
      → IsSome p × AreTypes p × AreTypes c × Before [] (column_tokens (columns p c v f)) (o ++ (b ++ (s ++ (d ++ (e ++ g)))))
  named_by p c v f o b s d e g bracket partition semicolon clustering value static =
      let ending = join [] (value_token v ∷ []) (ending_tokens f) e g (value_named v e (ending_tokens f ++ []) value (no_word f)) (static_named f g static) in
      let clustered = clustering_named fuel c d (e ++ g) (tail_tokens v f) clustering ending in
      let signed = join [] (sign 59 ∷ []) (list_tokens c ++ sign 59 ∷ tail_tokens v f) s (d ++ (e ++ g)) (sign_before 59 s ((list_tokens c ++ sign 59 ∷ tail_tokens v f) ++ []) semicolon) clustered.1 in
      let types = types_listed fuel p b ((sign 59 ∷ (list_tokens c ++ sign 59 ∷ tail_tokens v f)) ++ []) partition tt in
      let listed = join [] (list_tokens p) (sign 59 ∷ (list_tokens c ++ sign 59 ∷ tail_tokens v f)) b (s ++ (d ++ (e ++ g))) types.2 signed in
      (types.0, types.1, clustered.0, join [] (sign 40 ∷ []) (list_tokens p ++ sign 59 ∷ (list_tokens c ++ sign 59 ∷ tail_tokens v f)) o (b ++ (s ++ (d ++ (e ++ g)))) (sign_before 40 o ((list_tokens p ++ sign 59 ∷ (list_tokens c ++ sign 59 ∷ tail_tokens v f)) ++ []) bracket) listed)

  pub named : (s : Columns) (bytes : List ℕ) → IsColumns fuel s bytes → IsSchemaText s bytes
  named s bytes (u0, spaces, after, (n, is), (u1, o, b1, bracket, (p, b, b2, partition, (u2, semi, b3, semicolon, (c, d, b4, clustering, (v, e, g, value, (f, static, same), e5), e4), e3), e2), e1), e0) =
      let q = named_by p c v f o b semi d e g bracket partition semicolon clustering value static in
      let all : after ≡ o ++ (b ++ (semi ++ (d ++ (e ++ g)))) = e1 ∙ ap (λ l. o ++ l) (e2 ∙ ap (λ l. b ++ l) (e3 ∙ ap (λ l. semi ++ l) (e4 ∙ ap (λ l. d ++ l) e5))) in
      subst (λ (x : Columns). IsSchemaText x bytes) (sym same)
      (record {
        some = q.0;
        partition = q.1;
        clustering = q.2;
        before = n;
        rest = after;
        parts = e0 ∙ ap (λ l. l ++ after) is;
        spelled = before_spelled (column_tokens (columns p c v f)) after (subst (Before [] (column_tokens (columns p c v f))) (sym all) q.3);
      })

  pub unnamed : (s : Columns) (bytes : List ℕ) → fuel_all s.partition ≤ fuel → fuel_all s.clustering ≤ fuel → IsSchemaText s bytes → IsColumns fuel s bytes
  unnamed s bytes f g is =
      let tail = sign 59 ∷ (list_tokens s.clustering ++ sign 59 ∷ tail_tokens s.value s.static_value) in
      let a = split [] (sign 40 ∷ []) (list_tokens s.partition ++ tail) is.rest (spelled_before (column_tokens s) is.rest is.spelled) in
      let b = split [] (list_tokens s.partition) tail a.1 a.4 in
      let c = split [] (sign 59 ∷ []) (list_tokens s.clustering ++ sign 59 ∷ tail_tokens s.value s.static_value) b.1 b.4 in
      let d = clustering_unnamed fuel s.clustering c.1 (tail_tokens s.value s.static_value) g is.clustering c.4 in
      let e = split [] (value_token s.value ∷ []) (ending_tokens s.static_value) d.1 d.4 in
      let static = static_unnamed s.static_value e.1 e.4 in
      let value = value_unnamed s.value e.0 (ending_tokens s.static_value ++ []) e.3 in
      let types = types_back fuel s.partition b.0 (tail ++ []) f is.some is.partition b.3 in
      let bracket = sign_back 40 a.0 ((list_tokens s.partition ++ tail) ++ []) a.3 in
      let semicolon = sign_back 59 c.0 ((list_tokens s.clustering ++ sign 59 ∷ tail_tokens s.value s.static_value) ++ []) c.3 in (
        tt,
        replicate is.before 32,
        is.rest,
        (is.before, refl),
        (tt, a.0, a.1, bracket, (s.partition, b.0, b.1, types, (tt, c.0, c.1, semicolon, (s.clustering, d.0, d.1, d.3, (s.value, e.0, e.1, value, (s.static_value, static, refl), e.2), d.2), c.2), b.2), a.2),
        is.parts,
      )
