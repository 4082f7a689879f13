-- Values are read exactly, by their types.
use Rattle.std.proofs.Common.{◌≡◌, ℕ, zero, suc, ◌==◌, Bool, true, false, List, [], ◌∷◌, ◌++◌, refl, sym, ◌∙◌, ap, arith, subst, inl, inr}
use Rattle.std.specs.Prelude.{⊤, codes, replicate, ℤ}
use Rattle.std.proofs.lemmas.Bool.Decides.{nat_tests}
use Rattle.std.proofs.lemmas.List.{append-nil}
use Rattle.grammar.specs.Exact.{Read, Exact, NextIs}
use Rattle.grammar.specs.Reading.{Then, map_read, Mapped, ends, IsEnd, Either, IsOneOf, IsToken as IsWordToken, is_letter, AfterGap, NoSpace, spaces_at, AreSpaces}
use Rattle.grammar.proofs.Octets.{are_bytes}
use Rattle.grammar.proofs.Bind.{bind_exact}
use Rattle.grammar.proofs.Map.{map_exact}
use Rattle.grammar.proofs.Tokens.{ends_exact}
use Rattle.grammar.proofs.Choices.{AfterWord, one_of_exact, spaces_exact}
use Rattle.grammar.proofs.Signs.{begins_as, empty_begins, HasText, end_text}
use Rattle.key_types.specs.Literals.{quotes_doubled, boolean_literal}
use Rattle.key_types.specs.Kinds.{Kind, tiny, small, int, big, text, blob, boolean, tuple, reversed, Val, number, bytes, truth, values}
use Rattle.key_text.specs.Tokens.{is_digit, is_nonzero, is_hex, IsNumber}
use Rattle.key_text.specs.Grammar.{IsValueToken, IsSpaced, IsLiteral}
use Rattle.key_text.specs.Reading.{number_at, quoted_text_at, blob_at, truth_word_at, truth_at, closing_at, closed_read, no_end, no_close}
use Rattle.key_text.proofs.Numbers.{NoDigit, IsNegative, IsPlain, number_exact, number_text}
use Rattle.key_text.proofs.Quoted.{NoQuote, NoHex, IsText, IsHexed, text_exact, text_text, blob_exact, blob_text}
use Rattle.key_text.proofs.Plain.{signed, number_value}

-- one grammar in place of another that has the same texts
pub exact_as : {A : Type 0} (r : Read A) (Is As : A → List ℕ → Type 0) (follow : A → ℕ → Type 0) → Exact r Is follow → ((a : A) (t : List ℕ) → Is a t → As a t) → ((a : A) (t : List ℕ) → As a t → Is a t) → Exact r As follow
exact_as r Is As follow one to from = record {
  found = λ bs a rest h. let p = one.found bs a rest h in (p.0, p.1, to a p.0 p.2);
  all = λ a front rest is h. one.all a front rest (from a front is) h;
  next = one.next;
  stops = λ bs left h.
      let s = one.stops bs left h in
      let v = s.goes_on in
      record {
        front = s.front;
        rest = s.rest;
        parts = s.parts;
        count = s.count;
        goes_on = (v.0, v.1, to v.1 (s.front ++ v.0) v.2, v.3);
        no_further = s.no_further;
      };
}

-- ---- bytes

pub end_space : (b : ℕ) → no_end b ≡ false → (b == 32) ≡ false
end_space b h = grind (arith, nat_tests)

end_letter : (b : ℕ) → no_end b ≡ false → is_letter b ≡ false
end_letter b h = grind (arith, nat_tests)

end_digit : (b : ℕ) → no_end b ≡ false → is_digit b ≡ false
end_digit b h = grind (arith, nat_tests)

end_quote : (b : ℕ) → no_end b ≡ false → (b == 39) ≡ false
end_quote b h = grind (arith, nat_tests)

end_hex : (b : ℕ) → no_end b ≡ false → is_hex b ≡ false
end_hex b h = grind (arith, nat_tests)

pub close_end : (b : ℕ) → no_close b ≡ false → no_end b ≡ false
close_end b h = grind (arith, nat_tests)

nonzero_space : (d : ℕ) → is_nonzero d ≡ true → NoSpace d
nonzero_space d h = grind (arith, nat_tests)

-- ---- what stands behind a token

abbrev pub After : {A : Type 0} → A → ℕ → Type 0
After _ b = no_end b ≡ false

abbrev IsClosing : ⊤ → List ℕ → Type 0
IsClosing = Then AreSpaces (λ _. IsEnd tt)

pub closing_exact : Exact closing_at IsClosing After
closing_exact = bind_exact spaces_at (λ _. ends no_end tt) AreSpaces (λ _. IsEnd tt) (λ _. NoSpace) After spaces_exact (λ _. ends_exact no_end tt) (λ _. end_text tt)
    (λ a b bs rest is h. empty_begins NoSpace bs rest is.1 (begins_as (λ b. no_end b ≡ false) NoSpace end_space rest h))

closing_begins : (P : ℕ → Type 0) → P 32 → ((b : ℕ) → no_end b ≡ false → P b) → (u : ⊤) (bs rest : List ℕ) → IsClosing u bs → NextIs (λ b. no_end b ≡ false) rest → NextIs P (bs ++ rest)
closing_begins P at to u bs rest (a, spaces, empty, (zero, e), ended, f) h =
    empty_begins P bs rest (f ∙ ap (λ l. l ++ empty) e ∙ ended.1) (begins_as (λ b. no_end b ≡ false) P to rest h)
closing_begins P at to u bs rest (a, spaces, empty, (suc n, e), ended, f) h = subst (λ (l : List ℕ). NextIs P (l ++ rest)) (sym (f ∙ ap (λ l. l ++ empty) e)) at

module _ {A : Type 0} (r : Read A) (Is : A → List ℕ → Type 0) (P : ℕ → Type 0) (one : Exact r Is (λ _. P)) (some : HasText Is) (at : P 32) (to : (b : ℕ) → no_end b ≡ false → P b) where
  abbrev IsClosed : A → List ℕ → Type 0
  IsClosed = Then Is (λ v. Mapped (λ _. v) IsClosing)

  closed_to : (a : A) (bs : List ℕ) → IsClosed a bs → IsSpaced (Is a) bs
  closed_to a bs (v, token, rest, is, (u, (w, spaces, empty, (n, e), ended, f), same), g) =
      (token, n, subst (λ (x : A). Is x token) (sym same) is, g ∙ ap (λ l. token ++ l) (f ∙ ap (λ l. spaces ++ l) ended.1 ∙ append-nil spaces ∙ e))

  closed_from : (a : A) (bs : List ℕ) → IsSpaced (Is a) bs → IsClosed a bs
  closed_from a bs (token, n, is, e) = (a, token, replicate n 32, is, (tt, (tt, replicate n 32, [], (n, refl), (refl, refl), sym (append-nil (replicate n 32))), refl), e)

  pub closed_exact : Exact (closed_read r) (λ a. IsSpaced (Is a)) After
  closed_exact = exact_as (closed_read r) IsClosed (λ a. IsSpaced (Is a)) After
      (bind_exact r (λ v. map_read (λ _. v) closing_at) Is (λ v. Mapped (λ _. v) IsClosing) (λ _. P) After one
      (λ v. map_exact (λ _. v) closing_at IsClosing After After closing_exact (λ u c h. h) (λ u c h. h))
      (λ v. (v, [], (tt, (tt, [], [], (0, refl), (refl, refl), refl), refl), tt))
      (λ v w bs rest is h. closing_begins P at to is.0 bs rest is.1 h))
      closed_to closed_from

-- ---- the types of one token

number_to : (x : Bool × ℕ) (token : List ℕ) → Either IsNegative IsPlain x token → IsNumber (signed x) token
number_to x token (inl (u, sign, rest, minus, (n, is, same), e)) =
    subst (λ (y : Bool × ℕ). IsNumber (signed y) token) (sym same) (inr (inr (n, refl, rest, e ∙ ap (λ l. l ++ rest) minus, is)))
number_to x token (inr (n, inl (u, zeros, empty, is, ended, e), same)) =
    let none_left : x ≡ (false, 0) = same ∙ ap (λ k. (false, k)) ended.0 in
    subst (λ (y : Bool × ℕ). IsNumber (signed y) token) (sym none_left) (inl (refl, e ∙ ap (λ l. l ++ empty) is ∙ ap (λ l. codes "0" ++ l) ended.1))
number_to x token (inr (n, inr is, same)) = subst (λ (y : Bool × ℕ). IsNumber (signed y) token) (sym same) (inr (inl (n, refl, is)))

-- a number is read from each of its tokens
number_from : (z : ℤ) (token : List ℕ) → IsNumber z token → (x : Bool × ℕ) × Either IsNegative IsPlain x token × (z ≡ signed x)
number_from z token (inl (same, e)) = ((false, 0), inr (0, inl (tt, codes "0", [], refl, (refl, refl), e), refl), same)
number_from z token (inr (inl (n, same, is))) = ((false, n), inr (n, inr is, refl), same)
number_from z token (inr (inr (n, same, digits, e, is))) = ((true, n), inl (tt, codes "-", digits, refl, (n, is, refl), e), same)

-- for the four types of numbers
module _ (Lit : Val → List ℕ → Type 0) (to : (z : ℤ) (bs : List ℕ) → IsSpaced (IsNumber z) bs → Lit (number z) bs) (from : (v : Val) (bs : List ℕ) → Lit v bs → (z : ℤ) × (v ≡ number z) × IsSpaced (IsNumber z) bs) where
  abbrev IsRead : Val → List ℕ → Type 0
  IsRead = Mapped number_value (λ x. IsSpaced (Either IsNegative IsPlain x))

  read_to : (v : Val) (bs : List ℕ) → IsRead v bs → Lit v bs
  read_to v bs (x, (token, n, is, e), same) = subst (λ (w : Val). Lit w bs) (sym same) (to (signed x) bs (token, n, number_to x token is, e))

  read_from : (v : Val) (bs : List ℕ) → Lit v bs → IsRead v bs
  read_from v bs h =
      let p = from v bs h in
      let q = number_from p.0 p.2.0 p.2.2 in
      (q.0, (p.2.0, p.2.1, q.1, p.2.3), p.1 ∙ ap number q.2)

  pub number_kind_exact : Exact (map_read number_value (closed_read number_at)) Lit After
  number_kind_exact = exact_as (map_read number_value (closed_read number_at)) IsRead Lit After
      (map_exact number_value (closed_read number_at) (λ x. IsSpaced (Either IsNegative IsPlain x)) After After (closed_exact number_at (Either IsNegative IsPlain) NoDigit number_exact number_text refl end_digit) (λ x c h. h) (λ x c h. h))
      read_to read_from

abbrev NumberOf : Val → List ℕ → Type 0
NumberOf v bs = (z : ℤ) × (v ≡ number z) × IsSpaced (IsNumber z) bs

pub tiny_from : (v : Val) (bs : List ℕ) → IsLiteral tiny v bs → NumberOf v bs
tiny_from (number z) bs h = (z, refl, h)
tiny_from (bytes b) bs h = absurd h.2
tiny_from (truth b) bs h = absurd h.2
tiny_from (values vs) bs h = absurd h.2

pub small_from : (v : Val) (bs : List ℕ) → IsLiteral small v bs → NumberOf v bs
small_from (number z) bs h = (z, refl, h)
small_from (bytes b) bs h = absurd h.2
small_from (truth b) bs h = absurd h.2
small_from (values vs) bs h = absurd h.2

pub int_from : (v : Val) (bs : List ℕ) → IsLiteral int v bs → NumberOf v bs
int_from (number z) bs h = (z, refl, h)
int_from (bytes b) bs h = absurd h.2
int_from (truth b) bs h = absurd h.2
int_from (values vs) bs h = absurd h.2

pub big_from : (v : Val) (bs : List ℕ) → IsLiteral big v bs → NumberOf v bs
big_from (number z) bs h = (z, refl, h)
big_from (bytes b) bs h = absurd h.2
big_from (truth b) bs h = absurd h.2
big_from (values vs) bs h = absurd h.2

-- texts
abbrev TextRead : Val → List ℕ → Type 0
TextRead = Mapped bytes (λ b. IsSpaced (IsText b))

text_to : (v : Val) (bs : List ℕ) → TextRead v bs → IsLiteral text v bs
text_to v bs (b, (token, n, (u, quote, rest, first, is, f), e), same) =
    subst (λ (w : Val). IsLiteral text w bs) (sym same) (token, n, f ∙ ap (λ l. l ++ rest) first ∙ ap (λ l. 39 ∷ l) is, e)

text_from : (v : Val) (bs : List ℕ) → IsLiteral text v bs → TextRead v bs
text_from (number z) bs h = absurd h.2
text_from (bytes b) bs (token, n, is, e) = (b, (token, n, (tt, codes "'", quotes_doubled b ++ 39 ∷ [], refl, refl, is), e), refl)
text_from (truth b) bs h = absurd h.2
text_from (values vs) bs h = absurd h.2

pub text_value_exact : Exact (map_read bytes (closed_read quoted_text_at)) (IsLiteral text) After
text_value_exact = exact_as (map_read bytes (closed_read quoted_text_at)) TextRead (IsLiteral text) After
    (map_exact bytes (closed_read quoted_text_at) (λ b. IsSpaced (IsText b)) After After (closed_exact quoted_text_at IsText NoQuote text_exact text_text refl end_quote) (λ x c h. h) (λ x c h. h)) text_to text_from

-- blobs
abbrev BlobRead : Val → List ℕ → Type 0
BlobRead = Mapped bytes (λ b. IsSpaced (IsHexed b))

blob_to : (v : Val) (bs : List ℕ) → BlobRead v bs → IsLiteral blob v bs
blob_to v bs (b, (token, n, (u, zero_x, digits, first, is, f), e), same) =
    subst (λ (w : Val). IsLiteral blob w bs) (sym same) (token, n, (digits, f ∙ ap (λ l. l ++ digits) first, is), e)

blob_from : (v : Val) (bs : List ℕ) → IsLiteral blob v bs → BlobRead v bs
blob_from (number z) bs h = absurd h.2
blob_from (bytes b) bs (token, n, is, e) = (b, (token, n, (tt, codes "0x", is.0, refl, is.2, is.1), e), refl)
blob_from (truth b) bs h = absurd h.2
blob_from (values vs) bs h = absurd h.2

pub blob_value_exact : Exact (map_read bytes (closed_read blob_at)) (IsLiteral blob) After
blob_value_exact = exact_as (map_read bytes (closed_read blob_at)) BlobRead (IsLiteral blob) After
    (map_exact bytes (closed_read blob_at) (λ b. IsSpaced (IsHexed b)) After After (closed_exact blob_at IsHexed NoHex blob_exact blob_text refl end_hex) (λ x c h. h) (λ x c h. h)) blob_to blob_from

-- booleans
abbrev true_word : List ℕ × Bool
true_word = (codes "true", true)

abbrev false_words : List (List ℕ × Bool)
false_words = (codes "false", false) ∷ []

abbrev IsTruth : Bool → List ℕ → Type 0
IsTruth = Then (IsOneOf true_word false_words) (λ x. IsEnd x.0)

gap_end : (s : Bool) (b : ℕ) → no_end b ≡ false → AfterGap true s b
gap_end true b h = end_space b h
gap_end false b h = (end_space b h, end_letter b h)

truth_exact : Exact truth_at IsTruth After
truth_exact = bind_exact truth_word_at (λ x. ends no_end x.0) (IsOneOf true_word false_words) (λ x. IsEnd x.0) AfterWord After
    (one_of_exact true_word false_words (are_bytes (codes "true") refl, are_bytes (codes "false") refl) refl) (λ x. ends_exact no_end x.0) (λ x. end_text x.0)
    (λ x v bs rest is h. empty_begins (AfterWord x) bs rest is.1 (begins_as (λ b. no_end b ≡ false) (AfterWord x) (gap_end x.1) rest h))

-- a word with the spaces behind it, as a token is spaced
word_spaced : (w : List ℕ) (s : Bool) (bs : List ℕ) → IsWordToken w s bs → (n : ℕ) × (bs ≡ w ++ replicate n 32)
word_spaced w true bs is = (suc is.4.0, is.5 ∙ ap (λ l. l ++ is.2) is.3 ∙ ap (λ l. w ++ l) is.4.1)
word_spaced w false bs is = (0, is.5 ∙ ap (λ l. l ++ is.2) is.3 ∙ ap (λ l. w ++ l) is.4)

spaced_word : (w : List ℕ) (n : ℕ) (bs : List ℕ) → bs ≡ w ++ replicate n 32 → (s : Bool) × IsWordToken w s bs
spaced_word w zero bs e = (false, (tt, w, [], refl, refl, e))
spaced_word w (suc n) bs e = (true, (tt, w, replicate (suc n) 32, refl, (n, refl), e))

truth_to : (v : Val) (bs : List ℕ) → Mapped truth IsTruth v bs → IsLiteral boolean v bs
truth_to v bs (b, (x, word, empty, inl is, ended, e), same) =
    let p = word_spaced (codes "true") is.0 word is.1 in
    let kind : v ≡ truth true = same ∙ ap truth (ended.0 ∙ ap (λ q. q.0) is.2) in
    subst (λ (w : Val). IsLiteral boolean w bs) (sym kind) (codes "true", p.0, refl, e ∙ ap (λ l. word ++ l) ended.1 ∙ append-nil word ∙ p.1)
truth_to v bs (b, (x, word, empty, inr is, ended, e), same) =
    let p = word_spaced (codes "false") is.0 word is.1 in
    let kind : v ≡ truth false = same ∙ ap truth (ended.0 ∙ ap (λ q. q.0) is.2) in
    subst (λ (w : Val). IsLiteral boolean w bs) (sym kind) (codes "false", p.0, refl, e ∙ ap (λ l. word ++ l) ended.1 ∙ append-nil word ∙ p.1)

truth_from : (v : Val) (bs : List ℕ) → IsLiteral boolean v bs → Mapped truth IsTruth v bs
truth_from (number z) bs h = absurd h.2
truth_from (bytes b) bs h = absurd h.2
truth_from (truth true) bs (token, n, is, e) =
    let p = spaced_word (codes "true") n bs (e ∙ ap (λ l. l ++ replicate n 32) is) in
    (true, ((true, p.0), bs, [], inl (p.0, p.1, refl), (refl, refl), sym (append-nil bs)), refl)
truth_from (truth false) bs (token, n, is, e) =
    let p = spaced_word (codes "false") n bs (e ∙ ap (λ l. l ++ replicate n 32) is) in
    (false, ((false, p.0), bs, [], inr (p.0, p.1, refl), (refl, refl), sym (append-nil bs)), refl)
truth_from (values vs) bs h = absurd h.2

pub truth_value_exact : Exact (map_read truth truth_at) (IsLiteral boolean) After
truth_value_exact = exact_as (map_read truth truth_at) (Mapped truth IsTruth) (IsLiteral boolean) After (map_exact truth truth_at IsTruth After After truth_exact (λ x c h. h) (λ x c h. h)) truth_to truth_from

-- ---- how values begin, and that each type has one

number_head : (z : ℤ) (token : List ℕ) → IsNumber z token → (b : ℕ) × (bs : List ℕ) × (token ≡ b ∷ bs) × NoSpace b
number_head z token (inl (same, e)) = (48, [], e, refl)
number_head z token (inr (inl (n, same, is))) = (is.0, is.1, is.2, nonzero_space is.0 is.3)
number_head z token (inr (inr (n, same, digits, e, is))) = (45, digits, e, refl)

boolean_head : (b : Bool) (token : List ℕ) → token ≡ boolean_literal b → (c : ℕ) × (cs : List ℕ) × (token ≡ c ∷ cs) × NoSpace c
boolean_head true token e = (116, codes "rue", e, refl)
boolean_head false token e = (102, codes "alse", e, refl)

abbrev pub Head : List ℕ → Type 0
Head bs = (b : ℕ) × (cs : List ℕ) × (bs ≡ b ∷ cs) × NoSpace b

pub spaced_head : (token bs : List ℕ) (n : ℕ) → bs ≡ token ++ replicate n 32 → Head token → Head bs
spaced_head token bs n e h = (h.0, h.1 ++ replicate n 32, e ∙ ap (λ l. l ++ replicate n 32) h.2, h.3)

pub token_head : (t : Kind) (v : Val) (token : List ℕ) → IsValueToken t v token → Head token
token_head tiny (number z) token is = number_head z token is
token_head small (number z) token is = number_head z token is
token_head int (number z) token is = number_head z token is
token_head big (number z) token is = number_head z token is
token_head text (bytes b) token is = (39, quotes_doubled b ++ 39 ∷ [], is, refl)
token_head blob (bytes b) token is = (48, 120 ∷ is.0, is.1, refl)
token_head boolean (truth b) token is = boolean_head b token is
token_head tiny (bytes b) token is = absurd is
token_head tiny (truth b) token is = absurd is
token_head tiny (values vs) token is = absurd is
token_head small (bytes b) token is = absurd is
token_head small (truth b) token is = absurd is
token_head small (values vs) token is = absurd is
token_head int (bytes b) token is = absurd is
token_head int (truth b) token is = absurd is
token_head int (values vs) token is = absurd is
token_head big (bytes b) token is = absurd is
token_head big (truth b) token is = absurd is
token_head big (values vs) token is = absurd is
token_head text (number z) token is = absurd is
token_head text (truth b) token is = absurd is
token_head text (values vs) token is = absurd is
token_head blob (number z) token is = absurd is
token_head blob (truth b) token is = absurd is
token_head blob (values vs) token is = absurd is
token_head boolean (number z) token is = absurd is
token_head boolean (bytes b) token is = absurd is
token_head boolean (values vs) token is = absurd is
token_head (tuple ts) v token is = absurd is
token_head (reversed t) v token is = absurd is
