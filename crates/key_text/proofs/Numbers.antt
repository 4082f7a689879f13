-- Numbers are read exactly.
use Rattle.std.proofs.Common.{◌≡◌, ℕ, ◌+◌, ◌-◌, ◌*◌, Bool, true, false, cond, List, [], ◌∷◌, ◌++◌, length, Result, Ok, Err, refl, sym, ◌∙◌, ap, arith, subst, add-one, inl, inr}
use Rattle.std.specs.Prelude.{⊤, codes}
use Rattle.std.proofs.lemmas.Bool.Decides.{nat_tests}
use Rattle.grammar.specs.Exact.{Exact, StopsAt, NextIs}
use Rattle.key_types.specs.Kinds.{AreBytes}
use Rattle.grammar.specs.Reading.{given_at, IsGiven, then_read, Then, map_read, Mapped, ends, IsEnd, Either}
use Rattle.grammar.proofs.Octets.{are_bytes}
use Rattle.grammar.proofs.Bind.{bind_exact}
use Rattle.grammar.proofs.First.{first_exact}
use Rattle.grammar.proofs.Map.{map_exact}
use Rattle.grammar.proofs.Tokens.{literal_exact, ends_exact, any_rest}
use Rattle.grammar.proofs.Signs.{Heads, HasText, end_text, map_text}
use Rattle.key_text.specs.Tokens.{is_digit, is_nonzero, more_digits, AreDigits, IsPositive}
use Rattle.key_text.specs.Reading.{digits_at, positive_at, is_zero, zero_at, magnitude_at, is_minus, number_at}
use Rattle.grammar.proofs.Front.{stops_first, stops_empty}

abbrev pub NoDigit : ℕ → Type 0
NoDigit b = is_digit b ≡ false

abbrev Got : Type 0
Got = Result (ℕ × List ℕ) ℕ

-- ---- digits

abbrev IsDigits : ℕ → ℕ → List ℕ → Type 0
IsDigits n m ds = AreDigits ds × (m ≡ more_digits n ds)

digits_by : (t : Bool) (n b : ℕ) (bs : List ℕ) (m : ℕ) (rest : List ℕ) → is_digit b ≡ t → cond {A = Got} t (digits_at (n * 10 + (b - 48)) bs) (Ok (n, b ∷ bs)) ≡ Ok (m, rest)
    → (digits_at (n * 10 + (b - 48)) bs ≡ Ok (m, rest) → (front : List ℕ) × (bs ≡ front ++ rest) × IsDigits (n * 10 + (b - 48)) m front) → (front : List ℕ) × (b ∷ bs ≡ front ++ rest) × IsDigits n m front
digits_by true n b bs m rest e h f = let p = f h in (b ∷ p.0, ap (λ l. b ∷ l) p.1, ((e, p.2.0), p.2.1))
digits_by false n b bs m rest e h f = let pairs : ◌≡◌ {A = ℕ × List ℕ} (n, b ∷ bs) (m, rest) = cc in ([], ap (λ q. q.1) pairs, (tt, sym (ap (λ q. q.0) pairs)))

digits_found : (n : ℕ) (text : List ℕ) (m : ℕ) (rest : List ℕ) → digits_at n text ≡ Ok (m, rest) → (front : List ℕ) × (text ≡ front ++ rest) × IsDigits n m front
digits_found n [] m rest h = let pairs : ◌≡◌ {A = ℕ × List ℕ} (n, []) (m, rest) = cc in ([], ap (λ q. q.1) pairs, (tt, sym (ap (λ q. q.0) pairs)))
digits_found n (b ∷ bs) m rest h = digits_by (is_digit b) n b bs m rest refl h (digits_found (n * 10 + (b - 48)) bs m rest)

digits_end : (n : ℕ) (rest : List ℕ) → NextIs NoDigit rest → digits_at n rest ≡ Ok (n, rest)
digits_end n [] h = refl
digits_end n (b ∷ bs) h = ap (λ t. cond {A = Got} t (digits_at (n * 10 + (b - 48)) bs) (Ok (n, b ∷ bs))) h

digits_all : (n : ℕ) (front rest : List ℕ) → AreDigits front → NextIs NoDigit rest → digits_at n (front ++ rest) ≡ Ok (more_digits n front, rest)
digits_all n [] rest is h = digits_end n rest h
digits_all n (d ∷ ds) rest is h = ap (λ t. cond {A = Got} t (digits_at (n * 10 + (d - 48)) (ds ++ rest)) (Ok (n, d ∷ (ds ++ rest)))) is.0 ∙ digits_all (n * 10 + (d - 48)) ds rest is.1 h

digits_next_by : (t : Bool) (n b : ℕ) (bs : List ℕ) (m c : ℕ) (cs : List ℕ) → is_digit b ≡ t → cond {A = Got} t (digits_at (n * 10 + (b - 48)) bs) (Ok (n, b ∷ bs)) ≡ Ok (m, c ∷ cs) → (digits_at (n * 10 + (b - 48)) bs ≡ Ok (m, c ∷ cs) → NoDigit c) → NoDigit c
digits_next_by true n b bs m c cs e h f = f h
digits_next_by false n b bs m c cs e h f =
    let pairs : ◌≡◌ {A = ℕ × List ℕ} (n, b ∷ bs) (m, c ∷ cs) = cc in
    let lists : b ∷ bs ≡ c ∷ cs = ap (λ q. q.1) pairs in
    let same : b ≡ c = cc in
    subst NoDigit same e

digits_next : (n : ℕ) (text : List ℕ) (m c : ℕ) (cs : List ℕ) → digits_at n text ≡ Ok (m, c ∷ cs) → NoDigit c
digits_next n [] m c cs h = let pairs : ◌≡◌ {A = ℕ × List ℕ} (n, []) (m, c ∷ cs) = cc in let lists : [] ≡ c ∷ cs = ap (λ q. q.1) pairs in cc
digits_next n (b ∷ bs) m c cs h = digits_next_by (is_digit b) n b bs m c cs refl h (digits_next (n * 10 + (b - 48)) bs m c cs)

digits_never_by : (t : Bool) (n b : ℕ) (bs : List ℕ) (left : ℕ) → cond {A = Got} t (digits_at (n * 10 + (b - 48)) bs) (Ok (n, b ∷ bs)) ≡ Err left → (digits_at (n * 10 + (b - 48)) bs ≡ Err left → ⊥) → ⊥
digits_never_by true n b bs left h f = f h
digits_never_by false n b bs left h f = cc

digits_never : (n : ℕ) (text : List ℕ) (left : ℕ) → digits_at n text ≡ Err left → ⊥
digits_never n [] left h = cc
digits_never n (b ∷ bs) left h = digits_never_by (is_digit b) n b bs left h (digits_never (n * 10 + (b - 48)) bs left)

-- ---- digits that begin with no 0

positive_by : (t : Bool) (b : ℕ) (bs : List ℕ) (m : ℕ) (rest : List ℕ) → is_nonzero b ≡ t → cond {A = Got} t (digits_at (b - 48) bs) (Err (length bs + 1)) ≡ Ok (m, rest) → (front : List ℕ) × (b ∷ bs ≡ front ++ rest) × IsPositive m front
positive_by true b bs m rest e h = let p = digits_found (b - 48) bs m rest h in (b ∷ p.0, ap (λ l. b ∷ l) p.1, (b, p.0, refl, e, p.2.0, p.2.1))
positive_by false b bs m rest e h = cc

positive_found : (text : List ℕ) (m : ℕ) (rest : List ℕ) → positive_at text ≡ Ok (m, rest) → (front : List ℕ) × (text ≡ front ++ rest) × IsPositive m front
positive_found [] m rest h = cc
positive_found (b ∷ bs) m rest h = positive_by (is_nonzero b) b bs m rest refl h

positive_all : (m : ℕ) (front rest : List ℕ) → IsPositive m front → NextIs NoDigit rest → positive_at (front ++ rest) ≡ Ok (m, rest)
positive_all m front rest is h =
    ap (λ l. positive_at (l ++ rest)) is.2 ∙ ap (λ t. cond {A = Got} t (digits_at (is.0 - 48) (is.1 ++ rest)) (Err (length (is.1 ++ rest) + 1))) is.3
    ∙ digits_all (is.0 - 48) is.1 rest is.4 h ∙ ap (λ k. Ok (k, rest)) (sym is.5)

positive_next_by : (t : Bool) (b : ℕ) (bs : List ℕ) (m c : ℕ) (cs : List ℕ) → cond {A = Got} t (digits_at (b - 48) bs) (Err (length bs + 1)) ≡ Ok (m, c ∷ cs) → NoDigit c
positive_next_by true b bs m c cs h = digits_next (b - 48) bs m c cs h
positive_next_by false b bs m c cs h = cc

positive_next : (text : List ℕ) (m c : ℕ) (cs : List ℕ) → positive_at text ≡ Ok (m, c ∷ cs) → NoDigit c
positive_next [] m c cs h = cc
positive_next (b ∷ bs) m c cs h = positive_next_by (is_nonzero b) b bs m c cs h

abbrev one_text : HasText IsPositive
one_text = (1, codes "1", (49, [], refl, refl, tt, refl), are_bytes (codes "1") refl)

positive_stops_by : (t : Bool) (b : ℕ) (bs : List ℕ) (left : ℕ) → is_nonzero b ≡ t → cond {A = Got} t (digits_at (b - 48) bs) (Err (length bs + 1)) ≡ Err left → StopsAt positive_at IsPositive (b ∷ bs) left
positive_stops_by true b bs left e h = absurd (digits_never (b - 48) bs left h)
positive_stops_by false b bs left e h =
    let k : left ≡ length bs + 1 = cc in
    stops_first positive_at _ b bs left (k ∙ add-one (length bs)) (one_text.1, one_text.0, one_text.2, one_text.3) (λ xs. (rw (e, add-one) refl))

positive_stops : (text : List ℕ) (left : ℕ) → positive_at text ≡ Err left → StopsAt positive_at IsPositive text left
positive_stops [] left h = stops_empty _ _ left (let e : left ≡ 0 = cc in e) (one_text.1, one_text.0, one_text.2, one_text.3)
positive_stops (b ∷ bs) left h = positive_stops_by (is_nonzero b) b bs left refl h

positive_exact : Exact positive_at IsPositive (λ _. NoDigit)
positive_exact = record { found = positive_found; all = positive_all; next = positive_next; stops = positive_stops }

-- ---- numbers

abbrev pub IsZero : ℕ → List ℕ → Type 0
IsZero = Then (IsGiven (codes "0")) (λ _. IsEnd 0)

zero_exact : Exact zero_at IsZero (λ _. NoDigit)
zero_exact = bind_exact (given_at (codes "0")) (λ _. ends is_digit 0) (IsGiven (codes "0")) (λ _. IsEnd 0) (λ _ _. ⊤) (λ _. NoDigit) (literal_exact (codes "0") (are_bytes (codes "0") refl)) (λ _. ends_exact is_digit 0) (λ _. end_text 0)
    (λ a b text rest is h. any_rest (text ++ rest))

zero_text : HasText IsZero
zero_text = (0, codes "0", (tt, codes "0", [], refl, (refl, refl), refl), are_bytes (codes "0") refl)

abbrev pub IsMagnitude : ℕ → List ℕ → Type 0
IsMagnitude = Either IsZero IsPositive

zero_heads : (Holds : ℕ → Type 0) → Holds 48 → Heads Holds IsZero
zero_heads Holds h n text is = (48, is.2, is.5 ∙ ap (λ l. l ++ is.2) is.3, h)

nonzero_zero : (d : ℕ) → is_nonzero d ≡ true → is_zero d ≡ false
nonzero_zero d h = grind (arith, nat_tests)

nonzero_minus : (d : ℕ) → is_nonzero d ≡ true → is_minus d ≡ false
nonzero_minus d h = grind (arith, nat_tests)

positive_heads : Heads (λ b. is_nonzero b ≡ true) IsPositive
positive_heads n text is = (is.0, is.1, is.2, is.3)

magnitude_exact : Exact magnitude_at IsMagnitude (λ _. NoDigit)
magnitude_exact = first_exact is_zero zero_at positive_at IsZero IsPositive (λ _. NoDigit) zero_exact positive_exact (zero_heads (λ b. is_zero b ≡ true) refl)
    (λ n text is. let p = positive_heads n text is in (p.0, p.1, p.2, nonzero_zero p.0 p.3)) (zero_text.1, zero_text.0, zero_text.2, zero_text.3)

magnitude_heads : Heads (λ b. is_minus b ≡ false) IsMagnitude
magnitude_heads n text (inl is) = zero_heads (λ b. is_minus b ≡ false) refl n text is
magnitude_heads n text (inr is) = let p = positive_heads n text is in (p.0, p.1, p.2, nonzero_minus p.0 p.3)

abbrev signed : Bool → ℕ → Bool × ℕ
signed minus n = (minus, n)

abbrev pub IsNegative : Bool × ℕ → List ℕ → Type 0
IsNegative = Then (IsGiven (codes "-")) (λ _. Mapped (signed true) IsPositive)

abbrev pub IsPlain : Bool × ℕ → List ℕ → Type 0
IsPlain = Mapped (signed false) IsMagnitude

minus : AreBytes (codes "-")
minus = are_bytes (codes "-") refl

negative_exact : Exact (then_read (given_at (codes "-")) (λ _. map_read (signed true) positive_at)) IsNegative (λ _. NoDigit)
negative_exact = bind_exact (given_at (codes "-")) (λ _. map_read (signed true) positive_at) (IsGiven (codes "-")) (λ _. Mapped (signed true) IsPositive) (λ _ _. ⊤) (λ _. NoDigit) (literal_exact (codes "-") minus)
    (λ _. map_exact (signed true) positive_at IsPositive (λ _. NoDigit) (λ _. NoDigit) positive_exact (λ n c h. h) (λ n c h. h)) (λ _. map_text (signed true) IsPositive one_text)
    (λ a b text rest is h. any_rest (text ++ rest))

plain_exact : Exact (map_read (signed false) magnitude_at) IsPlain (λ _. NoDigit)
plain_exact = map_exact (signed false) magnitude_at IsMagnitude (λ _. NoDigit) (λ _. NoDigit) magnitude_exact (λ n c h. h) (λ n c h. h)

negative_text : HasText IsNegative
negative_text = ((true, 1), codes "-1", (tt, codes "-", codes "1", refl, (1, one_text.2, refl), refl), are_bytes (codes "-1") refl)

pub number_exact : Exact number_at (Either IsNegative IsPlain) (λ _. NoDigit)
number_exact = first_exact is_minus (then_read (given_at (codes "-")) (λ _. map_read (signed true) positive_at)) (map_read (signed false) magnitude_at) IsNegative IsPlain (λ _. NoDigit) negative_exact plain_exact
    (λ a text is. (45, is.2, is.5 ∙ ap (λ l. l ++ is.2) is.3, refl)) (λ a text is. magnitude_heads is.0 text is.1) (negative_text.1, negative_text.0, negative_text.2, negative_text.3)

pub number_text : HasText (Either IsNegative IsPlain)
number_text = (negative_text.0, negative_text.1, inl negative_text.2, negative_text.3)
