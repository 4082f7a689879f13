-- What is written is of the grammar.
use Rattle.std.proofs.Common.{◌≡◌, ℕ, zero, suc, ◌+◌, ◌-◌, ◌*◌, ◌/◌, ◌%◌, ◌^◌, ◌<◌, ◌≤◌, true, List, [], ◌∷◌, ◌++◌, refl, sym, ap, arith, append_assoc, inl, inr}
use Rattle.std.specs.Prelude.{◌⊎◌, IsTrue, codes, ℤ, pos, negsuc}
use Rattle.std.specs.Fmt.{decimal, signed_decimal}
use Rattle.std.proofs.lemmas.Fmt.{decimal_by_steps}
use Rattle.std.proofs.lemmas.Bool.Decides.{nat_tests}
use Rattle.std.proofs.lemmas.List.{append-nil}
use Rattle.key_types.specs.Kinds.{Kind, tiny, small, int, big, text, blob, boolean, tuple, reversed, Kinds, end, more, Val, number, bytes, truth, values, Vals, none, and, AreBytes, Fits, EachFits, within}
use Rattle.key_types.specs.Literals.{hex_digit, hex_digits, blob_literal, literal, literals, list_literal}
use Rattle.key_text.specs.Tokens.{is_digit, more_digits, AreDigits, IsPositive, IsNumber, is_hex, hex_value, AreHex, IsBlob}
use Rattle.key_text.specs.Grammar.{IsSpaced, IsLiteral, AreLiterals, AreFurther, IsList}

-- ---- numbers

abbrev IsDecimal : ℕ → List ℕ → Type 0
IsDecimal n ds = ((n ≡ 0) × (ds ≡ codes "0")) ⊎ IsPositive n ds

one_digit : (n : ℕ) → n < 10 → IsDecimal n ((48 + n) ∷ [])
one_digit zero h = inl (refl, refl)
one_digit (suc n) h = inr (48 + suc n, [], refl, grind (arith, nat_tests), tt, omega arith)

digits_behind : (ds : List ℕ) (d : ℕ) → AreDigits ds → IsTrue (is_digit d) → AreDigits (ds ++ d ∷ [])
digits_behind [] d h k = (k, tt)
digits_behind (x ∷ ds) d h k = (h.0, digits_behind ds d h.1 k)

one_more : (n : ℕ) (ds : List ℕ) (d : ℕ) → more_digits n (ds ++ d ∷ []) ≡ more_digits n ds * 10 + (d - 48)
one_more n [] d = refl
one_more n (x ∷ ds) d = one_more (n * 10 + (x - 48)) ds d

further : (n : ℕ) (ds : List ℕ) → 10 ≤ n → IsDecimal (n / 10) ds → IsDecimal n (ds ++ (48 + n % 10) ∷ [])
further n ds h (inl p) = let e = p.0 in absurd (omega arith)
further n ds h (inr (d, es, e, first, digits, value)) =
    let last : IsTrue (is_digit (48 + n % 10)) = grind (arith, nat_tests) in
    let more = one_more (d - 48) es (48 + n % 10) in
    inr (d, es ++ (48 + n % 10) ∷ [], ap (λ l. l ++ (48 + n % 10) ∷ []) e, first, digits_behind es (48 + n % 10) digits last, omega arith)

decimal_is : (n : ℕ) → n < 2 ^ 64 → IsDecimal n (decimal n)
decimal_is n h = decimal_by_steps IsDecimal one_digit further n h

plain_is : (n : ℕ) (ds : List ℕ) → IsDecimal n ds → IsNumber (pos n) ds
plain_is n ds (inl p) = inl (ap pos p.0, p.1)
plain_is n ds (inr p) = inr (inl (n, refl, p))

minus_is : (n : ℕ) (ds : List ℕ) → IsDecimal (suc n) ds → IsNumber (negsuc n) (45 ∷ ds)
minus_is n ds (inl p) = let e = p.0 in absurd (omega arith)
minus_is n ds (inr p) = inr (inr (suc n, refl, ds, refl, p))

pub number_written : (m : ℕ) (z : ℤ) → m < 2 ^ 63 → IsTrue (within (negsuc m) (pos (suc m)) z) → IsNumber z (signed_decimal z)
number_written m (pos n) l h = plain_is n (decimal n) (decimal_is n (grind (arith, nat_tests)))
number_written m (negsuc n) l h = minus_is n (decimal (suc n)) (decimal_is (suc n) (grind (arith, nat_tests)))

-- ---- blobs

digit_is_hex : (n : ℕ) → n < 16 → is_hex (hex_digit n) ≡ true
digit_is_hex n h = grind (arith, nat_tests)

digit_value : (n : ℕ) → n < 16 → hex_value (hex_digit n) ≡ n
digit_value n h = grind (arith, nat_tests)

hex_written : (bs : List ℕ) → AreBytes bs → AreHex bs (hex_digits bs)
hex_written [] h = refl
hex_written (b ∷ bs) h =
    let w = h.0 in
    let high = digit_value (b / 16) (omega arith) in
    let low = digit_value (b % 16) (omega arith) in
    (hex_digit (b / 16), hex_digit (b % 16), hex_digits bs, refl, digit_is_hex (b / 16) (omega arith), digit_is_hex (b % 16) (omega arith), omega arith, hex_written bs h.1)

-- ---- values

-- a token with no space behind it
bare : (Is : List ℕ → Type 0) (token : List ℕ) → Is token → IsSpaced Is token
bare Is token h = (token, 0, h, sym (append-nil token))

behind_comma : (ts : Kinds) (vs : Vals) (bs : List ℕ) → AreLiterals ts vs bs → (u : Kind) (us : Kinds) (w : Val) (ws : Vals) → ts ≡ more u us → vs ≡ and w ws → AreFurther ts vs (44 ∷ 32 ∷ bs)
behind_comma end vs bs h u us w ws e f = absurd (let no : end ≡ more u us = e in cc)
behind_comma (more t ts) none bs h u us w ws e f = absurd h
behind_comma (more t ts) (and v vs) bs (first, rest, lit, behind, g) u us w ws e f = (codes ", ", first, rest, (1, refl), lit, behind, ap (λ l. 44 ∷ 32 ∷ l) g)

mutual
  pub value_written : (t : Kind) (v : Val) → Fits t v → IsLiteral t v (literal t v)
  value_written tiny (number z) h = bare (IsNumber z) (signed_decimal z) (number_written 127 z (omega arith) h)
  value_written tiny (bytes b) h = absurd h
  value_written tiny (truth b) h = absurd h
  value_written tiny (values vs) h = absurd h
  value_written small (number z) h = bare (IsNumber z) (signed_decimal z) (number_written 32767 z (omega arith) h)
  value_written small (bytes b) h = absurd h
  value_written small (truth b) h = absurd h
  value_written small (values vs) h = absurd h
  value_written int (number z) h = bare (IsNumber z) (signed_decimal z) (number_written 2147483647 z (omega arith) h)
  value_written int (bytes b) h = absurd h
  value_written int (truth b) h = absurd h
  value_written int (values vs) h = absurd h
  value_written big (number z) h = bare (IsNumber z) (signed_decimal z) (number_written 9223372036854775807 z (omega arith) h)
  value_written big (bytes b) h = absurd h
  value_written big (truth b) h = absurd h
  value_written big (values vs) h = absurd h
  value_written text (number z) h = absurd h
  value_written text (bytes b) h = (literal text (bytes b), 0, refl, sym (append-nil (literal text (bytes b))))
  value_written text (truth b) h = absurd h
  value_written text (values vs) h = absurd h
  value_written blob (number z) h = absurd h
  value_written blob (bytes b) h = bare (IsBlob b) (blob_literal b) (hex_digits b, refl, hex_written b h)
  value_written blob (truth b) h = absurd h
  value_written blob (values vs) h = absurd h
  value_written boolean (number z) h = absurd h
  value_written boolean (bytes b) h = absurd h
  value_written boolean (truth b) h = (literal boolean (truth b), 0, refl, sym (append-nil (literal boolean (truth b))))
  value_written boolean (values vs) h = absurd h
  value_written (tuple ts) (number z) h = absurd h
  value_written (tuple ts) (bytes b) h = absurd h
  value_written (tuple ts) (truth b) h = absurd h
  value_written (tuple ts) (values vs) h = (codes "(", literals ts vs, codes ")", (0, refl), all_written ts vs h, (0, refl), refl)
  value_written (reversed t) v h = value_written t v h

  all_written : (ts : Kinds) (vs : Vals) → EachFits ts vs → AreLiterals ts vs (literals ts vs)
  all_written end none h = refl
  all_written end (and v vs) h = absurd h
  all_written (more t ts) none h = absurd h
  all_written (more t end) (and v none) h = (literal t v, [], value_written t v h.0, refl, sym (append-nil (literal t v)))
  all_written (more t end) (and v (and w ws)) h = absurd h.1
  all_written (more t (more u us)) (and v none) h = absurd h.1
  all_written (more t (more u us)) (and v (and w ws)) h = (
    literal t v,
    codes ", " ++ literals (more u us) (and w ws),
    value_written t v h.0,
    behind_comma (more u us) (and w ws) (literals (more u us) (and w ws)) (all_written (more u us) (and w ws) h.1) u us w ws refl refl,
    append_assoc (literal t v) (codes ", ") (literals (more u us) (and w ws)),
  )

pub list_written : (ts : Kinds) (vs : Vals) → EachFits ts vs → IsList ts vs (list_literal ts vs)
list_written ts vs h = (codes "(", literals ts vs, codes ")", (0, refl), all_written ts vs h, (0, refl), refl)
