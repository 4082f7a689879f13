-- What is written is UTF-8.
use Rattle.std.proofs.Common.{◌≡◌, ℕ, suc, ◌/◌, ◌%◌, ◌^◌, ◌<◌, ◌==◌, Bool, true, false, cond, List, [], ◌∷◌, ◌++◌, refl, sym, ◌∙◌, ap, arith, subst, inl, inr}
use Rattle.std.specs.Prelude.{◌&&◌, IsTrue, codes, ℤ, pos, negsuc}
use Rattle.std.specs.Fmt.{signed_decimal}
use Rattle.std.specs.Str.{IsUtf8, is_utf8}
use Rattle.std.proofs.lemmas.Bool.Decides.{nat_tests}
use Rattle.std.proofs.lemmas.Str.{IsUtf8-nil, IsUtf8-append, IsUtf8-encode, is_utf8-from_IsUtf8, IsUtf8-from_is_utf8, encode_ascii}
use lib.Utf8.{scalar, scalars, encodes, encode, low_scalar}
use Rattle.key_types.specs.Kinds.{Kind, tiny, small, int, big, text, blob, boolean, tuple, reversed, Kinds, end, more, Val, number, bytes, truth, values, Vals, none, and, AreBytes, Fits, EachFits, within}
use Rattle.key_types.specs.Literals.{quotes_doubled, text_literal, hex_digit, hex_digits, boolean_literal, literal, literals, list_literal}
use Rattle.key_text.specs.Tokens.{is_digit, is_nonzero, AreDigits, IsPositive, IsNumber}
use Rattle.key_text.proofs.Decimals.{number_written}
use Rattle.key_text.proofs.Utf.{NoQuotes, both, same_byte, no_quotes}

-- ---- ASCII

-- each is below 128
abbrev Ascii : List ℕ → Type 0
Ascii [] = Unit {0}
Ascii (b ∷ bs) = (b < 128) × Ascii bs

one_ascii : (b : ℕ) → b < 128 → IsUtf8 (b ∷ [])
one_ascii b h = (b ∷ [], (ap (λ t. t && true) (low_scalar b (omega arith)), ap (λ l. l ++ []) (encode_ascii b h)))

ascii_utf8 : (bs : List ℕ) → Ascii bs → IsUtf8 bs
ascii_utf8 [] h = IsUtf8-nil
ascii_utf8 (b ∷ bs) h = IsUtf8-append (b ∷ []) bs (one_ascii b h.0) (ascii_utf8 bs h.1)

digit_ascii : (d : ℕ) → IsTrue (is_digit d) → d < 128
digit_ascii d h = grind (arith, nat_tests)

nonzero_ascii : (d : ℕ) → IsTrue (is_nonzero d) → d < 128
nonzero_ascii d h = grind (arith, nat_tests)

digits_ascii : (ds : List ℕ) → AreDigits ds → Ascii ds
digits_ascii [] h = tt
digits_ascii (d ∷ ds) h = (digit_ascii d h.0, digits_ascii ds h.1)

positive_ascii : (n : ℕ) (bs : List ℕ) → IsPositive n bs → Ascii bs
positive_ascii n bs (d, ds, e, first, digits, value) = subst Ascii (sym e) (nonzero_ascii d first, digits_ascii ds digits)

number_ascii : (z : ℤ) (bs : List ℕ) → IsNumber z bs → Ascii bs
number_ascii z bs (inl (same, e)) = subst Ascii (sym e) (omega arith, tt)
number_ascii z bs (inr (inl (n, same, is))) = positive_ascii n bs is
number_ascii z bs (inr (inr (n, same, ds, e, is))) = subst Ascii (sym e) (omega arith, positive_ascii n ds is)

hex_ascii : (n : ℕ) → n < 16 → hex_digit n < 128
hex_ascii n h = grind (arith, nat_tests)

hex_digits_ascii : (bs : List ℕ) → AreBytes bs → Ascii (hex_digits bs)
hex_digits_ascii [] h = tt
hex_digits_ascii (b ∷ bs) h = let w = h.0 in (hex_ascii (b / 16) (omega arith), (hex_ascii (b % 16) (omega arith), hex_digits_ascii bs h.1))

boolean_utf8 : (b : Bool) → IsUtf8 (boolean_literal b)
boolean_utf8 true = ascii_utf8 (codes "true") (omega arith, (omega arith, (omega arith, (omega arith, tt))))
boolean_utf8 false = ascii_utf8 (codes "false") (omega arith, (omega arith, (omega arith, (omega arith, (omega arith, tt)))))

-- ---- quotes that are doubled

kept : (es rest : List ℕ) → NoQuotes es → quotes_doubled (es ++ rest) ≡ es ++ quotes_doubled rest
kept [] rest h = refl
kept (x ∷ es) rest h = by (x == 39) refl (kept es rest (λ k l g. h (suc k) (omega arith) g))
  where
    by : (t : Bool) → (x == 39) ≡ t → quotes_doubled (es ++ rest) ≡ es ++ quotes_doubled rest → cond t (39 ∷ 39 ∷ quotes_doubled (es ++ rest)) (x ∷ quotes_doubled (es ++ rest)) ≡ x ∷ (es ++ quotes_doubled rest)
    by true e f = absurd (h 0 (omega arith) (same_byte x 39 e))
    by false e f = ap (λ l. x ∷ l) f

quote_doubled : (rest : List ℕ) → IsUtf8 (quotes_doubled rest) → IsUtf8 (quotes_doubled (39 ∷ rest))
quote_doubled rest u = IsUtf8-append (39 ∷ 39 ∷ []) (quotes_doubled rest) (ascii_utf8 (39 ∷ 39 ∷ []) (omega arith, (omega arith, tt))) u

doubled : (cs : List ℕ) → scalars cs ≡ true → IsUtf8 (quotes_doubled (encodes cs))
doubled [] s = IsUtf8-nil
doubled (c ∷ cs) s = by (c == 39) refl (doubled cs (both (scalar c) (scalars cs) s).1)
  where
    by : (t : Bool) → (c == 39) ≡ t → IsUtf8 (quotes_doubled (encodes cs)) → IsUtf8 (quotes_doubled (encode c ++ encodes cs))
    by true e u =
        let one : encode c ≡ 39 ∷ [] = ap encode (same_byte c 39 e) ∙ encode_ascii 39 (omega arith) in
        subst (λ (l : List ℕ). IsUtf8 (quotes_doubled (l ++ encodes cs))) (sym one) (quote_doubled (encodes cs) u)
    by false e u =
        let plain : c ≡ 39 → ⊥ = λ h. other h in
        subst IsUtf8 (sym (kept (encode c) (encodes cs) (no_quotes c plain))) (IsUtf8-append (encode c) (quotes_doubled (encodes cs)) (IsUtf8-encode c (both (scalar c) (scalars cs) s).0) u)
      where
        other : c ≡ 39 → ⊥
        other h = grind (arith, nat_tests)

text_utf8 : (b : List ℕ) → IsTrue (is_utf8 b) → IsUtf8 (text_literal b)
text_utf8 b h =
    let u = IsUtf8-from_is_utf8 b h in
    let inside = subst (λ (l : List ℕ). IsUtf8 (quotes_doubled l)) u.1.1 (doubled u.0 u.1.0) in
    IsUtf8-append (39 ∷ []) (quotes_doubled b ++ 39 ∷ []) (one_ascii 39 (omega arith)) (IsUtf8-append (quotes_doubled b) (39 ∷ []) inside (one_ascii 39 (omega arith)))

number_utf8 : (m : ℕ) (z : ℤ) → m < 2 ^ 63 → IsTrue (within (negsuc m) (pos (suc m)) z) → IsUtf8 (signed_decimal z)
number_utf8 m z l h = ascii_utf8 (signed_decimal z) (number_ascii z (signed_decimal z) (number_written m z l h))

-- ---- values

enclosed : (bs : List ℕ) → IsUtf8 bs → IsUtf8 (40 ∷ (bs ++ 41 ∷ []))
enclosed bs u = IsUtf8-append (40 ∷ []) (bs ++ 41 ∷ []) (one_ascii 40 (omega arith)) (IsUtf8-append bs (41 ∷ []) u (one_ascii 41 (omega arith)))

mutual
  value_written_utf8 : (t : Kind) (v : Val) → Fits t v → IsUtf8 (literal t v)
  value_written_utf8 tiny (number z) h = number_utf8 127 z (omega arith) h
  value_written_utf8 tiny (bytes b) h = absurd h
  value_written_utf8 tiny (truth b) h = absurd h
  value_written_utf8 tiny (values vs) h = absurd h
  value_written_utf8 small (number z) h = number_utf8 32767 z (omega arith) h
  value_written_utf8 small (bytes b) h = absurd h
  value_written_utf8 small (truth b) h = absurd h
  value_written_utf8 small (values vs) h = absurd h
  value_written_utf8 int (number z) h = number_utf8 2147483647 z (omega arith) h
  value_written_utf8 int (bytes b) h = absurd h
  value_written_utf8 int (truth b) h = absurd h
  value_written_utf8 int (values vs) h = absurd h
  value_written_utf8 big (number z) h = number_utf8 9223372036854775807 z (omega arith) h
  value_written_utf8 big (bytes b) h = absurd h
  value_written_utf8 big (truth b) h = absurd h
  value_written_utf8 big (values vs) h = absurd h
  value_written_utf8 text (number z) h = absurd h
  value_written_utf8 text (bytes b) h = text_utf8 b h.0
  value_written_utf8 text (truth b) h = absurd h
  value_written_utf8 text (values vs) h = absurd h
  value_written_utf8 blob (number z) h = absurd h
  value_written_utf8 blob (bytes b) h = IsUtf8-append (codes "0x") (hex_digits b) (ascii_utf8 (codes "0x") (omega arith, (omega arith, tt))) (ascii_utf8 (hex_digits b) (hex_digits_ascii b h))
  value_written_utf8 blob (truth b) h = absurd h
  value_written_utf8 blob (values vs) h = absurd h
  value_written_utf8 boolean (number z) h = absurd h
  value_written_utf8 boolean (bytes b) h = absurd h
  value_written_utf8 boolean (truth b) h = boolean_utf8 b
  value_written_utf8 boolean (values vs) h = absurd h
  value_written_utf8 (tuple ts) (number z) h = absurd h
  value_written_utf8 (tuple ts) (bytes b) h = absurd h
  value_written_utf8 (tuple ts) (truth b) h = absurd h
  value_written_utf8 (tuple ts) (values vs) h = enclosed (literals ts vs) (all_written_utf8 ts vs h)
  value_written_utf8 (reversed t) v h = value_written_utf8 t v h

  all_written_utf8 : (ts : Kinds) (vs : Vals) → EachFits ts vs → IsUtf8 (literals ts vs)
  all_written_utf8 end none h = IsUtf8-nil
  all_written_utf8 end (and v vs) h = absurd h
  all_written_utf8 (more t ts) none h = absurd h
  all_written_utf8 (more t end) (and v none) h = value_written_utf8 t v h.0
  all_written_utf8 (more t end) (and v (and w ws)) h = absurd h.1
  all_written_utf8 (more t (more u us)) (and v none) h = absurd h.1
  all_written_utf8 (more t (more u us)) (and v (and w ws)) h =
      IsUtf8-append (literal t v ++ codes ", ") (literals (more u us) (and w ws)) (IsUtf8-append (literal t v) (codes ", ") (value_written_utf8 t v h.0) (ascii_utf8 (codes ", ") (omega arith, (omega arith, tt))))
      (all_written_utf8 (more u us) (and w ws) h.1)

pub value_utf8 : (t : Kind) (v : Val) → Fits t v → IsTrue (is_utf8 (literal t v))
value_utf8 t v h = is_utf8-from_IsUtf8 (literal t v) (value_written_utf8 t v h)

pub list_utf8 : (ts : Kinds) (vs : Vals) → EachFits ts vs → IsTrue (is_utf8 (list_literal ts vs))
list_utf8 ts vs h = is_utf8-from_IsUtf8 (list_literal ts vs) (enclosed (literals ts vs) (all_written_utf8 ts vs h))
