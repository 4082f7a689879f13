-- What the readings read is the grammar of tokens, in both directions.
use Rattle.std.proofs.Common.{◌≡◌, ℕ, zero, suc, ◌+◌, ◌≤◌, Bool, true, false, List, [], ◌∷◌, ◌++◌, Some, None, refl, sym, ◌∙◌, ap, arith, subst, inl, inr}
use Rattle.std.specs.Prelude.{codes}
use Rattle.std.proofs.lemmas.List.{append-nil}
use Rattle.key_types.specs.Kinds.{Kind, tiny, small, int, big, text, blob, boolean, tuple, reversed, Kinds, end, more}
use Rattle.grammar.specs.Reading.{IsWord, IsSign, IsToken}
use Rattle.schema_text.specs.Grammar.{Token, word, sign, type_tokens, list_tokens, IsType, AreTypes, IsSome}
use Rattle.schema_text.specs.Reading.{type_with, listed}
use Rattle.schema_text.proofs.Relation.{IsSimple, IsTuple, IsTurn, IsClosing, IsKindBy, IsBehind, IsBase, IsTypes}
use Rattle.schema_text.proofs.Spelled.{Before, NoWord, Open, no_word_open, join, split, word_before, word_back, sign_before, sign_back}

-- ---- from what is read to the tokens

-- a type that is no reversed one, and its tokens
abbrev Based : List Token → Kind → List ℕ → Type 0
Based next t bytes = IsType t true × Before next (type_tokens t) bytes

word_based : (w : List ℕ) (t : Kind) (next : List Token) → type_tokens t ≡ word w ∷ [] → IsType t true → (a : Kind × Bool) (bytes : List ℕ) → IsWord (w, t) a bytes → Open a.1 next → Based next a.0 bytes
word_based w t next e is a bytes h o =
    let same : a ≡ (t, h.0) = h.2 in
    subst (λ (x : Kind × Bool). Open x.1 next → Based next x.0 bytes) (sym same) (λ k. (is, subst (λ (l : List Token). Before next l bytes) (sym e) (word_before w h.0 bytes next h.1 k))) o

simple_based : (a : Kind × Bool) (bytes : List ℕ) (next : List Token) → IsSimple a bytes → Open a.1 next → Based next a.0 bytes
simple_based a bytes next (inl is) o = word_based (codes "tinyint") tiny next refl tt a bytes is o
simple_based a bytes next (inr (inl is)) o = word_based (codes "smallint") small next refl tt a bytes is o
simple_based a bytes next (inr (inr (inl is))) o = word_based (codes "int") int next refl tt a bytes is o
simple_based a bytes next (inr (inr (inr (inl is)))) o = word_based (codes "bigint") big next refl tt a bytes is o
simple_based a bytes next (inr (inr (inr (inr (inl is))))) o = word_based (codes "text") text next refl tt a bytes is o
simple_based a bytes next (inr (inr (inr (inr (inr (inl is)))))) o = word_based (codes "blob") blob next refl tt a bytes is o
simple_based a bytes next (inr (inr (inr (inr (inr (inr is)))))) o = word_based (codes "boolean") boolean next refl tt a bytes is o

-- types and their tokens
abbrev pub Listed : List Token → Kinds → List ℕ → Type 0
Listed next ts bytes = IsSome ts × AreTypes ts × Before next (list_tokens ts) bytes

is_tuple : (ts : Kinds) (behind : Bool) → IsSome ts → AreTypes ts → IsType (tuple ts) behind
is_tuple end behind h k = absurd h
is_tuple (more t ts) behind h k = k

tuple_based : (Types : Kinds → List ℕ → Type 0) → ((ts : Kinds) (bytes : List ℕ) (next : List Token) → Types ts bytes → NoWord next → Listed next ts bytes)
    → (a : Kind × Bool) (bytes : List ℕ) (next : List Token) → IsTuple Types a bytes → Based next a.0 bytes
tuple_based Types list a bytes next is =
    let opened = is.4 in
    let inside = opened.4 in
    let ts = inside.0 in
    let closed = inside.4 in
    let types = list ts inside.1 (sign 62 ∷ next) inside.3 tt in
    let last = join next (list_tokens ts) (sign 62 ∷ []) inside.1 inside.2 types.2 (sign_before 62 inside.2 next closed.1) in
    let signed = join next (sign 60 ∷ []) (list_tokens ts ++ sign 62 ∷ []) opened.1 (inside.1 ++ inside.2) (sign_before 60 opened.1 ((list_tokens ts ++ sign 62 ∷ []) ++ next) opened.3) last in
    let worded = join next (word (codes "tuple") ∷ []) (sign 60 ∷ (list_tokens ts ++ sign 62 ∷ [])) is.1 (opened.1 ++ (inside.1 ++ inside.2)) (word_before (codes "tuple") is.0 is.1 _ is.3 (no_word_open is.0 _ tt)) signed in
    let all : bytes ≡ is.1 ++ (opened.1 ++ (inside.1 ++ inside.2)) = is.5 ∙ ap (λ l. is.1 ++ l) (opened.5 ∙ ap (λ l. opened.1 ++ l) inside.5) in
    subst (λ (x : Kind × Bool). Based next x.0 bytes) (sym closed.2) (is_tuple ts true types.0 types.1, subst (Before next (type_tokens (tuple ts))) (sym all) worded)

plain_type : (t : Kind) → IsType t true → IsType t false
plain_type tiny h = tt
plain_type small h = tt
plain_type int h = tt
plain_type big h = tt
plain_type text h = tt
plain_type blob h = tt
plain_type boolean h = tt
plain_type (tuple end) h = absurd h
plain_type (tuple (more t ts)) h = h
plain_type (reversed t) h = absurd h

-- a type and its tokens
abbrev Typed : List Token → Kind → List ℕ → Type 0
Typed next t bytes = IsType t false × Before next (type_tokens t) bytes

closing_typed : (x : Kind × Bool) (front bytes : List ℕ) (t : Kind) (next : List Token) → ((after : List Token) → Open x.1 after → Based after x.0 front) → IsClosing x t bytes → NoWord next → Typed next t (front ++ bytes)
closing_typed (u, true) front bytes t next base (o, turn, rest, inl is, ended, e) none =
    let p = base (word (codes "reversed") ∷ next) tt in
    let all : bytes ≡ turn = e ∙ ap (λ l. turn ++ l) ended.1 ∙ append-nil turn in
    let both = join next (type_tokens u) (word (codes "reversed") ∷ []) front turn p.1 (word_before (codes "reversed") is.0 turn next is.1 (no_word_open is.0 next none)) in
    let kind : t ≡ reversed u = ended.0 ∙ ap (λ q. type_with q u) is.2 in
    subst (λ (k : Kind). Typed next k (front ++ bytes)) (sym kind) (p.0, subst (λ (l : List ℕ). Before next (type_tokens (reversed u)) (front ++ l)) (sym all) both)
closing_typed (u, true) front bytes t next base (o, turn, rest, inr is, ended, e) none =
    let p = base next tt in
    let all : bytes ≡ [] = e ∙ ap (λ l. l ++ rest) is.1 ∙ ended.1 in
    let kind : t ≡ u = ended.0 ∙ ap (λ q. type_with q u) is.0 in
    subst (λ (k : Kind). Typed next k (front ++ bytes)) (sym kind) (plain_type u p.0, subst (Before next (type_tokens u)) (sym (ap (λ l. front ++ l) all ∙ append-nil front)) p.1)
closing_typed (u, false) front bytes t next base (o, turn, rest, is, ended, e) none =
    let p = base next none in
    let all : bytes ≡ [] = e ∙ ap (λ l. l ++ rest) is.1 ∙ ended.1 in
    let kind : t ≡ u = ended.0 ∙ ap (λ q. type_with q u) is.0 in
    subst (λ (k : Kind). Typed next k (front ++ bytes)) (sym kind) (plain_type u p.0, subst (Before next (type_tokens u)) (sym (ap (λ l. front ++ l) all ∙ append-nil front)) p.1)

kind_typed : (Base : Kind × Bool → List ℕ → Type 0) → ((a : Kind × Bool) (bytes : List ℕ) (next : List Token) → Base a bytes → Open a.1 next → Based next a.0 bytes)
    → (t : Kind) (bytes : List ℕ) (next : List Token) → IsKindBy Base t bytes → NoWord next → Typed next t bytes
kind_typed Base base t bytes next is none = subst (Typed next t) (sym is.5) (closing_typed is.0 is.1 is.2 t next (λ after. base is.0 is.1 after is.3) is.4 none)

one_listed : (next : List Token) (t : Kind) (bytes : List ℕ) → Typed next t bytes → Listed next (more t end) bytes
one_listed next t bytes h = (tt, (h.0, tt), h.1)

more_listed : (next : List Token) (t : Kind) (ts : Kinds) (front comma bytes : List ℕ) → Typed (sign 44 ∷ (list_tokens ts ++ next)) t front → IsSign 44 tt comma → Listed next ts bytes → Listed next (more t ts) (front ++ (comma ++ bytes))
more_listed next t end front comma bytes h k l = absurd l.0
more_listed next t (more u us) front comma bytes h k l = (
  tt,
  (h.0, l.1),
  join next (type_tokens t) (sign 44 ∷ list_tokens (more u us)) front (comma ++ bytes) h.1 (join next (sign 44 ∷ []) (list_tokens (more u us)) comma bytes (sign_before 44 comma (list_tokens (more u us) ++ next) k) l.2),
)

behind_listed : (Types : Kinds → List ℕ → Type 0) → ((ts : Kinds) (bytes : List ℕ) (next : List Token) → Types ts bytes → NoWord next → Listed next ts bytes)
    → (t : Kind) (ts : Kinds) (front bytes : List ℕ) (next : List Token) → ((after : List Token) → NoWord after → Typed after t front) → IsBehind Types t ts bytes → NoWord next → Listed next ts (front ++ bytes)
behind_listed Types list t ts front bytes next kind (o, further, rest, inl is, ended, e) none =
    let w = is.1 in
    let us = is.0 in
    let all : bytes ≡ w.1 ++ w.2 = e ∙ ap (λ l. further ++ l) ended.1 ∙ append-nil further ∙ w.5 in
    let kinds : ts ≡ more t us = ended.0 ∙ ap (λ q. listed t q) is.2 in
    subst (λ (k : Kinds). Listed next k (front ++ bytes)) (sym kinds)
    (subst (λ (l : List ℕ). Listed next (more t us) (front ++ l)) (sym all) (more_listed next t us front w.1 w.2 (kind _ tt) w.3 (list us w.2 next w.4 none)))
behind_listed Types list t ts front bytes next kind (o, further, rest, inr is, ended, e) none =
    let all : bytes ≡ [] = e ∙ ap (λ l. l ++ rest) is.1 ∙ ended.1 in
    let kinds : ts ≡ more t end = ended.0 ∙ ap (λ q. listed t q) is.0 in
    subst (λ (k : Kinds). Listed next k (front ++ bytes)) (sym kinds) (subst (Listed next (more t end)) (sym (ap (λ l. front ++ l) all ∙ append-nil front)) (one_listed next t front (kind next none)))

mutual
  base_based : (fuel : ℕ) (a : Kind × Bool) (bytes : List ℕ) (next : List Token) → IsBase fuel a bytes → Open a.1 next → Based next a.0 bytes
  base_based zero a bytes next is o = simple_based a bytes next is o
  base_based (suc fuel) a bytes next (inl is) o = simple_based a bytes next is o
  base_based (suc fuel) a bytes next (inr is) o = tuple_based (IsTypes fuel) (types_listed fuel) a bytes next is

  pub types_listed : (fuel : ℕ) (ts : Kinds) (bytes : List ℕ) (next : List Token) → IsTypes fuel ts bytes → NoWord next → Listed next ts bytes
  types_listed zero ts bytes next (t, front, rest, is, ended, e) none =
      let all : bytes ≡ front = e ∙ ap (λ l. front ++ l) ended.1 ∙ append-nil front in
      subst (λ (k : Kinds). Listed next k bytes) (sym ended.0) (one_listed next t bytes (subst (Typed next t) (sym all) (kind_typed IsSimple simple_based t front next is none)))
  types_listed (suc fuel) ts bytes next (t, front, rest, is, behind, e) none =
      subst (Listed next ts) (sym e) (behind_listed (IsTypes fuel) (types_listed fuel) t ts front rest next (λ after k. kind_typed (IsBase fuel) (base_based fuel) t front after is k) behind none)

-- ---- and back, with enough fuel

-- how much fuel a type takes, and types
abbrev mutual
  pub fuel_of : Kind → ℕ
  fuel_of (tuple ts) = fuel_all ts + 1
  fuel_of (reversed t) = fuel_of t
  fuel_of _ = 0

  pub fuel_all : Kinds → ℕ
  fuel_all end = 0
  fuel_all (more t ts) = fuel_of t + fuel_all ts + 1

-- a type without the `reversed` behind it
abbrev inner : Kind → Kind
inner (reversed t) = t
inner t = t

inner_same : (t : Kind) → IsType t true → inner t ≡ t
inner_same tiny h = refl
inner_same small h = refl
inner_same int h = refl
inner_same big h = refl
inner_same text h = refl
inner_same blob h = refl
inner_same boolean h = refl
inner_same (tuple ts) h = refl
inner_same (reversed t) h = absurd h

-- the bytes are read as the type, whether or not a word may follow
abbrev Back : (Kind × Bool → List ℕ → Type 0) → List Token → Kind → List ℕ → Type 0
Back Base next t bytes = (s : Bool) × Base (t, s) bytes × Open s next

either_back : (fuel : ℕ) (next : List Token) (t : Kind) (bytes : List ℕ) → Back IsSimple next t bytes → Back (IsBase fuel) next t bytes
either_back zero next t bytes h = h
either_back (suc fuel) next t bytes h = (h.0, inl h.1, h.2)

tuple_back : (Types : Kinds → List ℕ → Type 0) (ts : Kinds) (bytes : List ℕ) (next : List Token) → ((front : List ℕ) → Before (sign 62 ∷ next) (list_tokens ts) front → Types ts front) → Before next (type_tokens (tuple ts)) bytes
    → IsTuple Types (tuple ts, true) bytes
tuple_back Types ts bytes next list h =
    let p = split next (word (codes "tuple") ∷ []) (sign 60 ∷ (list_tokens ts ++ sign 62 ∷ [])) bytes h in
    let w = word_back (codes "tuple") p.0 (sign 60 ∷ ((list_tokens ts ++ sign 62 ∷ []) ++ next)) p.3 in
    let q = split next (sign 60 ∷ []) (list_tokens ts ++ sign 62 ∷ []) p.1 p.4 in
    let opened = sign_back 60 q.0 ((list_tokens ts ++ sign 62 ∷ []) ++ next) q.3 in
    let r = split next (list_tokens ts) (sign 62 ∷ []) q.1 q.4 in
    let closed = sign_back 62 r.1 next r.4 in
    (w.0, p.0, p.1, w.1, (tt, q.0, q.1, opened, (ts, r.0, r.1, list r.0 r.3, (tt, closed, refl), r.2), q.2), p.2)

turn_none : (s : Bool) → IsTurn s None []
turn_none true = inr (refl, refl)
turn_none false = (refl, refl)

plain_back : (Base : Kind × Bool → List ℕ → Type 0) (t : Kind) (bytes : List ℕ) (next : List Token) → Back Base next t bytes → IsKindBy Base t bytes
plain_back Base t bytes next h = ((t, h.0), bytes, [], h.1, (None, [], [], turn_none h.0, (refl, refl), refl), sym (append-nil bytes))

turned_back : (Base : Kind × Bool → List ℕ → Type 0) (u : Kind) (bytes : List ℕ) (next : List Token) → ((front : List ℕ) (after : List Token) → Before after (type_tokens u) front → Back Base after u front)
    → Before next (type_tokens (reversed u)) bytes → IsKindBy Base (reversed u) bytes
turned_back Base u bytes next base h =
    let p = split next (type_tokens u) (word (codes "reversed") ∷ []) bytes h in
    let w = word_back (codes "reversed") p.1 next p.4 in
    by p.0 p.1 p.2 (base p.0 (word (codes "reversed") ∷ next) p.3) w.0 w.1
  where
    by : (a b : List ℕ) → bytes ≡ a ++ b → Back Base (word (codes "reversed") ∷ next) u a → (s : Bool) → IsToken (codes "reversed") s b → IsKindBy Base (reversed u) bytes
    by a b e (true, is, o) s k = ((u, true), a, b, is, (Some s, b, [], inl (s, k, refl), (refl, refl), sym (append-nil b)), e)
    by a b e (false, is, o) s k = absurd o

kind_back : (Base : Kind × Bool → List ℕ → Type 0) (t : Kind) (bytes : List ℕ) (next : List Token)
    → ((front : List ℕ) (after : List Token) → IsType (inner t) true → Before after (type_tokens (inner t)) front → Back Base after (inner t) front) → IsType t false → Before next (type_tokens t) bytes → IsKindBy Base t bytes
kind_back Base tiny bytes next base is h = plain_back Base tiny bytes next (base bytes next is h)
kind_back Base small bytes next base is h = plain_back Base small bytes next (base bytes next is h)
kind_back Base int bytes next base is h = plain_back Base int bytes next (base bytes next is h)
kind_back Base big bytes next base is h = plain_back Base big bytes next (base bytes next is h)
kind_back Base text bytes next base is h = plain_back Base text bytes next (base bytes next is h)
kind_back Base blob bytes next base is h = plain_back Base blob bytes next (base bytes next is h)
kind_back Base boolean bytes next base is h = plain_back Base boolean bytes next (base bytes next is h)
kind_back Base (tuple end) bytes next base is h = absurd is
kind_back Base (tuple (more t ts)) bytes next base is h = plain_back Base (tuple (more t ts)) bytes next (base bytes next is h)
kind_back Base (reversed u) bytes next base is h = turned_back Base u bytes next (λ front after k. base front after is k) h

one_back : (fuel : ℕ) (t : Kind) (bytes : List ℕ) → IsKindBy (IsBase fuel) t bytes → IsTypes (suc fuel) (more t end) bytes
one_back fuel t bytes h = (t, bytes, [], h, (None, [], [], inr (refl, refl), (refl, refl), refl), sym (append-nil bytes))

more_back : (fuel : ℕ) (t : Kind) (ts : Kinds) (bytes a b c d : List ℕ) → bytes ≡ a ++ b → b ≡ c ++ d → IsKindBy (IsBase fuel) t a → IsSign 44 tt c → IsTypes fuel ts d → IsTypes (suc fuel) (more t ts) bytes
more_back fuel t ts bytes a b c d e f kind comma types = (t, a, b, kind, (Some ts, b, [], inl (ts, (tt, c, d, comma, types, f), refl), (refl, refl), sym (append-nil b)), e)

mutual
  base_back : (fuel : ℕ) (t : Kind) (bytes : List ℕ) (next : List Token) → fuel_of t ≤ fuel → IsType (inner t) true → Before next (type_tokens (inner t)) bytes → Back (IsBase fuel) next (inner t) bytes
  base_back fuel tiny bytes next f is h = let w = word_back _ bytes next h in either_back fuel next tiny bytes (w.0, inl (w.0, w.1, refl), w.2)
  base_back fuel small bytes next f is h = let w = word_back _ bytes next h in either_back fuel next small bytes (w.0, inr (inl (w.0, w.1, refl)), w.2)
  base_back fuel int bytes next f is h = let w = word_back _ bytes next h in either_back fuel next int bytes (w.0, inr (inr (inl (w.0, w.1, refl))), w.2)
  base_back fuel big bytes next f is h = let w = word_back _ bytes next h in either_back fuel next big bytes (w.0, inr (inr (inr (inl (w.0, w.1, refl)))), w.2)
  base_back fuel text bytes next f is h = let w = word_back _ bytes next h in either_back fuel next text bytes (w.0, inr (inr (inr (inr (inl (w.0, w.1, refl))))), w.2)
  base_back fuel blob bytes next f is h = let w = word_back _ bytes next h in either_back fuel next blob bytes (w.0, inr (inr (inr (inr (inr (inl (w.0, w.1, refl)))))), w.2)
  base_back fuel boolean bytes next f is h = let w = word_back _ bytes next h in either_back fuel next boolean bytes (w.0, inr (inr (inr (inr (inr (inr (w.0, w.1, refl)))))), w.2)
  base_back zero (tuple ts) bytes next f is h = absurd (omega arith)
  base_back (suc fuel) (tuple end) bytes next f is h = absurd is
  base_back (suc fuel) (tuple (more t ts)) bytes next f is h = (
    true,
    inr (tuple_back (IsTypes fuel) (more t ts) bytes next (λ front k. types_back fuel (more t ts) front (sign 62 ∷ next) (omega arith) tt is k) h),
    tt,
  )
  base_back fuel (reversed u) bytes next f is h =
      let e = inner_same u is in
      subst (λ (k : Kind). Back (IsBase fuel) next k bytes) e
      (base_back fuel u bytes next f (subst (λ (k : Kind). IsType k true) (sym e) is) (subst (λ (k : Kind). Before next (type_tokens k) bytes) (sym e) h))

  pub types_back : (fuel : ℕ) (ts : Kinds) (bytes : List ℕ) (next : List Token) → fuel_all ts ≤ fuel → IsSome ts → AreTypes ts → Before next (list_tokens ts) bytes → IsTypes fuel ts bytes
  types_back fuel end bytes next f some is h = absurd some
  types_back zero (more t ts) bytes next f some is h = absurd (omega arith)
  types_back (suc fuel) (more t end) bytes next f some is h =
      one_back fuel t bytes (kind_back (IsBase fuel) t bytes next (λ front after k l. base_back fuel t front after (omega arith) k l) is.0 h)
  types_back (suc fuel) (more t (more u us)) bytes next f some is h =
      let p = split next (type_tokens t) (sign 44 ∷ list_tokens (more u us)) bytes h in
      let q = split next (sign 44 ∷ []) (list_tokens (more u us)) p.1 p.4 in
      more_back fuel t (more u us) bytes p.0 p.1 q.0 q.1 p.2 q.2
      (kind_back (IsBase fuel) t p.0 (sign 44 ∷ (list_tokens (more u us) ++ next)) (λ front after k l. base_back fuel t front after (omega arith) k l) is.0 p.3)
      (sign_back 44 q.0 (list_tokens (more u us) ++ next) q.3) (types_back fuel (more u us) q.1 next (omega arith) tt is.1 q.4)
