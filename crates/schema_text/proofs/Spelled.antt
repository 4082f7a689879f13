-- Spelled tokens that stand before others, put together and taken apart.
use Rattle.std.proofs.Common.{◌≡◌, ℕ, zero, suc, Bool, true, false, List, [], ◌∷◌, ◌++◌, refl, sym, ◌∙◌, ap, subst, append_assoc}
use Rattle.std.specs.Prelude.{replicate}
use Rattle.std.proofs.lemmas.List.{append-nil}
use Rattle.grammar.specs.Reading.{IsToken, IsSign}
use Rattle.schema_text.specs.Grammar.{Token, word, sign, spelling, MayStand, AreSpelled}

-- the tokens, each with spaces behind it or none, where these others stand behind them
abbrev pub Before : List Token → List Token → List ℕ → Type 0
Before next [] bytes = bytes ≡ []
Before next (t ∷ ts) bytes = (n : ℕ) × (rest : List ℕ) × (bytes ≡ spelling t ++ replicate n 32 ++ rest) × MayStand t n (ts ++ next) × Before next ts rest

-- no word stands here
abbrev pub NoWord : List Token → Type 0
NoWord (word _ ∷ _) = ⊥
NoWord _ = Unit {0}

-- a word behind which there are spaces or not may stand before these
abbrev pub Open : Bool → List Token → Type 0
Open true next = Unit {0}
Open false next = NoWord next

pub no_word_open : (s : Bool) (next : List Token) → NoWord next → Open s next
no_word_open true next h = tt
no_word_open false next h = h

pub join : (next xs ys : List Token) (a b : List ℕ) → Before (ys ++ next) xs a → Before next ys b → Before next (xs ++ ys) (a ++ b)
join next [] ys a b h k = subst (λ (l : List ℕ). Before next ys (l ++ b)) (sym h) k
join next (t ∷ ts) ys a b h k = (
  h.0,
  h.1 ++ b,
  ap (λ l. l ++ b) h.2 ∙ append_assoc (spelling t ++ replicate h.0 32) h.1 b,
  subst (MayStand t h.0) (sym (append_assoc ts ys next)) h.3,
  join next ts ys h.1 b h.4 k,
)

pub split : (next xs ys : List Token) (c : List ℕ) → Before next (xs ++ ys) c → (a : List ℕ) × (b : List ℕ) × (c ≡ a ++ b) × Before (ys ++ next) xs a × Before next ys b
split next [] ys c h = ([], c, refl, refl, h)
split next (t ∷ ts) ys c h =
    let p = split next ts ys h.1 h.4 in (
      spelling t ++ replicate h.0 32 ++ p.0,
      p.1,
      h.2 ∙ ap (λ l. spelling t ++ replicate h.0 32 ++ l) p.2 ∙ sym (append_assoc (spelling t ++ replicate h.0 32) p.0 p.1),
      (h.0, p.0, refl, subst (MayStand t h.0) (append_assoc ts ys next) h.3, p.3),
      p.4,
    )

-- ---- one token

pub may_stand : (w : List ℕ) (next : List Token) → NoWord next → MayStand (word w) zero next
may_stand w [] h = tt
may_stand w (word v ∷ ts) h = h
may_stand w (sign c ∷ ts) h = tt

stands_apart : (w : List ℕ) (next : List Token) → MayStand (word w) zero next → NoWord next
stands_apart w [] h = tt
stands_apart w (word v ∷ ts) h = h
stands_apart w (sign c ∷ ts) h = tt

pub word_before : (w : List ℕ) (s : Bool) (bytes : List ℕ) (next : List Token) → IsToken w s bytes → Open s next → Before next (word w ∷ []) bytes
word_before w true bytes next is o = (suc is.4.0, [], is.5 ∙ ap (λ l. l ++ is.2) is.3 ∙ ap (λ l. w ++ l) is.4.1 ∙ sym (append-nil (w ++ replicate (suc is.4.0) 32)), tt, refl)
word_before w false bytes next is o = (zero, [], is.5 ∙ ap (λ l. l ++ is.2) is.3 ∙ ap (λ l. w ++ l) is.4 ∙ sym (append-nil (w ++ [])), may_stand w next o, refl)

pub word_back : (w : List ℕ) (bytes : List ℕ) (next : List Token) → Before next (word w ∷ []) bytes → (s : Bool) × IsToken w s bytes × Open s next
word_back w bytes next (zero, rest, e, m, h) = (false, (tt, w, [], refl, refl, e ∙ ap (λ l. w ++ [] ++ l) h ∙ append-nil (w ++ [])), stands_apart w next m)
word_back w bytes next (suc n, rest, e, m, h) =
    (true, (tt, w, replicate (suc n) 32, refl, (n, refl), e ∙ ap (λ l. w ++ replicate (suc n) 32 ++ l) h ∙ append-nil (w ++ replicate (suc n) 32)), tt)

pub sign_before : (c : ℕ) (bytes : List ℕ) (next : List Token) → IsSign c tt bytes → Before next (sign c ∷ []) bytes
sign_before c bytes next is = (is.0, [], is.1 ∙ ap (λ l. c ∷ l) (sym (append-nil (replicate is.0 32))), tt, refl)

pub sign_back : (c : ℕ) (bytes : List ℕ) (next : List Token) → Before next (sign c ∷ []) bytes → IsSign c tt bytes
sign_back c bytes next h = (h.0, h.2 ∙ ap (λ l. c ∷ (replicate h.0 32 ++ l)) h.4 ∙ ap (λ l. c ∷ l) (append-nil (replicate h.0 32)))

-- ---- all tokens of a text

may_here : (t : Token) (n : ℕ) (ts : List Token) → MayStand t n ts → MayStand t n (ts ++ [])
may_here t n ts h = subst (MayStand t n) (sym (append-nil ts)) h

may_there : (t : Token) (n : ℕ) (ts : List Token) → MayStand t n (ts ++ []) → MayStand t n ts
may_there t n ts h = subst (MayStand t n) (append-nil ts) h

pub spelled_before : (ts : List Token) (bytes : List ℕ) → AreSpelled ts bytes → Before [] ts bytes
spelled_before [] bytes h = h
spelled_before (t ∷ ts) bytes h = (h.0, h.1, h.2, may_here t h.0 ts h.3, spelled_before ts h.1 h.4)

pub before_spelled : (ts : List Token) (bytes : List ℕ) → Before [] ts bytes → AreSpelled ts bytes
before_spelled [] bytes h = h
before_spelled (t ∷ ts) bytes h = (h.0, h.1, h.2, may_there t h.0 ts h.3, before_spelled ts h.1 h.4)
