-- Hexadecimal as the kit writes and reads it is that of literals.
use Rattle.std.proofs.Common.{◌≡◌, ℕ, zero, suc, ◌+◌, ◌*◌, ◌/◌, ◌%◌, ◌-◌, ◌<◌, ◌≤◌, ◌⊎◌, inl, inr, cond, Bool, true, false, ◌&&◌, List, [], ◌∷◌, length, slice_index, Option, Some, None, Result, Ok, Err, refl, sym, ap, subst, ◌∙◌, arith}
use Rattle.std.specs.Prelude.{nat_eq, nat_le, nat_lt, ◌||◌}
use Rattle.std.specs.Str.{str_to_ascii_lowercase}
use Rattle.std.specs.Char.{to_ascii_lowercase}
use Rattle.std.proofs.lemmas.Bool.{and_parts, cases_lt, eqb-true}
use Rattle.std.proofs.lemmas.Bool.Decides.{nat_tests}
use borrow.Author.Tests.{leb-true}
use Rattle.hex.specs.Hex.{IsBytes, decode_of, decode_pairs, digit_or_error, encode_lower, encode_with, hex_digit_value, lower_digits, pair_value, value_at, ◌>>=◌}
use Rattle.hex.specs.declared.error.FromHexError.{FromHexError}
use Rattle.hex.specs.declared.error.FromHexError.TheVariants.{OutOfMemory}
use Rattle.hex.proofs.HexLemmas.{decode_of-encode_lower, decode_of-even, decode_of-ok, decode_of-same}
use Rattle.hex.proofs.Pairs.{cons_byte, decode_pairs-ok_pair}
use Rattle.key_types.specs.Kinds.{AreBytes}
use Rattle.key_types.specs.Literals.{hex_digit, hex_digits}
use Rattle.key_text.specs.Tokens.{AreHex, hex_value, is_hex}

-- ---- the digits of the kit's table are those of literals

abbrev is_same : ℕ → Bool
is_same d = nat_eq (slice_index lower_digits d) (hex_digit d)

abbrev are_same : ℕ → Bool
are_same zero = true
are_same (suc n) = is_same n && are_same n

same_at : (n k : ℕ) → are_same n ≡ true → k < n → is_same k ≡ true
same_at zero k h lt = absurd (omega arith)
same_at (suc n) k h lt =
    let parts = and_parts (is_same n) (are_same n) h in
    elim (cases_lt k n) [
      | inl below ↦ same_at n k parts.1 below
      | inr top ↦ let e : k ≡ n = omega arith in rw e parts.0
    ]

digit : (d : ℕ) → d < 16 → slice_index lower_digits d ≡ hex_digit d
digit d h = eqb-true (slice_index lower_digits d) (hex_digit d) (same_at 16 d refl h)

pub encoded : (bytes : List ℕ) → AreBytes bytes → encode_lower bytes ≡ hex_digits bytes
unfolding encode_with
encoded [] h = refl
encoded (b ∷ bs) h =
    let high : b / 16 < 16 = omega (arith, h.0) in
    let low : b % 16 < 16 = omega arith in
    rw (digit (b / 16) high, digit (b % 16) low, encoded bs h.1) refl

below : (bytes : List ℕ) → AreBytes bytes → IsBytes bytes
below [] h i = omega arith
below (b ∷ bs) h zero = h.0
below (b ∷ bs) h (suc i) = below bs h.1 i

-- ---- the kit reads the digits of literals

between : (low high c : ℕ) → (nat_le low c && nat_le c high) ≡ true → (low ≤ c) × (c ≤ high)
between low high c h = let p = and_parts (nat_le low c) (nat_le c high) h in (leb-true low c p.0, leb-true c high p.1)

reached : (m n : ℕ) → m ≤ n → nat_le m n ≡ true
reached m n h = grind (arith, nat_tests)

missed : (m n : ℕ) → n < m → nat_le m n ≡ false
missed m n h = grind (arith, nat_tests)

not_both : (t : Bool) → (t && false) ≡ false
not_both true = refl
not_both false = refl

above : (low high c : ℕ) → high < c → (nat_le low c && nat_le c high) ≡ false
above low high c h = rw (missed c high h) (not_both (nat_le low c))

under : (low high c : ℕ) → c < low → (nat_le low c && nat_le c high) ≡ false
under low high c h = rw (missed low c h) refl

-- whether a byte is an upper-case letter, a lower-case letter or a number, and from a on
digit_by : (upper lower number from : Bool) (c : ℕ) → (upper ≡ true → (lower ≡ false) × (number ≡ false) × (from ≡ false)) → (lower ≡ true → (number ≡ false) × (from ≡ true))
    → cond upper (Some (c - 55)) (cond lower (Some (c - 87)) (cond number (Some (c - 48)) None)) ≡ cond (number || lower || upper) (Some (cond number (c - 48) (cond from (c - 87) (c - 55)))) None
digit_by true lower number from c u l = let p = u refl in rw (p.0, p.1, p.2) refl
digit_by false true number from c u l = let p = l refl in rw (p.0, p.1) refl
digit_by false false true from c u l = refl
digit_by false false false from c u l = refl

same_digit : (c : ℕ) → hex_digit_value c ≡ cond (is_hex c) (Some (hex_value c)) None
same_digit c =
    digit_by (nat_le 65 c && nat_le c 70) (nat_le 97 c && nat_le c 102) (nat_le 48 c && nat_le c 57) (nat_le 97 c) c
    (λ h. let p = between 65 70 c h in (under 97 102 c (omega (arith, p.1)), above 48 57 c (omega (arith, p.0)), missed 97 c (omega (arith, p.1))))
    (λ h. let p = between 97 102 c h in (above 48 57 c (omega (arith, p.0)), reached 97 c p.0))

known : (c v : ℕ) → hex_digit_value c ≡ Some v → (is_hex c ≡ true) × (hex_value c ≡ v)
known c v h = by (is_hex c) refl (sym (same_digit c) ∙ h)
  where
    by : (t : Bool) → is_hex c ≡ t → cond t (Some (hex_value c)) None ≡ Some v → (is_hex c ≡ true) × (hex_value c ≡ v)
    by true e is = (e, cc)
    by false e is = cc

value_of : (c : ℕ) → is_hex c ≡ true → hex_digit_value c ≡ Some (hex_value c)
value_of c e = same_digit c ∙ ap (λ t. cond t (Some (hex_value c)) None) e

-- ---- the kit reads the bytes of literals

read : {A B : Type 0} (r : Result A FromHexError) (f : A → Result B FromHexError) (y : B) → (r >>= f) ≡ Ok y → (x : A) × (r ≡ Ok x) × (f x ≡ Ok y)
read (Ok x) f y h = (x, refl, h)
read (Err e) f y h = cc

digit_read : (c i : ℕ) (o : Option ℕ) (v : ℕ) → digit_or_error c i o ≡ Ok v → o ≡ Some v
digit_read c i (Some w) v h = cc
digit_read c i None v h = cc

found : (i : ℕ) (text bytes : List ℕ) → decode_pairs i text ≡ Ok bytes → AreHex bytes text
unfolding decode_pairs
found i [] bytes h = let e : [] ≡ bytes = cc in subst (λ (all : List ℕ). AreHex all []) e refl
found i (a ∷ []) bytes h = cc
found i (a ∷ b ∷ rest) bytes h =
    let p = read (pair_value a b i) _ bytes h in
    let high = read (value_at a i) _ p.0 p.1 in
    let low = read (value_at b (i + 1)) _ p.0 high.2 in
    let behind = read (decode_pairs (i + 2) rest) _ bytes p.2 in
    let e : p.0 ∷ behind.0 ≡ bytes = cc (behind.2) in
    let ka = known a high.0 (digit_read a i (hex_digit_value a) high.0 high.1) in
    let kb = known b low.0 (digit_read b (i + 1) (hex_digit_value b) low.0 low.1) in
    let sum : high.0 * 16 + low.0 ≡ p.0 = cc (low.2) in
    let byte : p.0 ≡ hex_value a * 16 + hex_value b = rw (ka.1, kb.1) (sym sum) in
    subst (λ (all : List ℕ). AreHex all (a ∷ b ∷ rest)) e (a, b, rest, refl, ka.0, kb.0, byte, found (i + 2) rest behind.0 behind.1)

all_read : (i : ℕ) (bytes text : List ℕ) → AreHex bytes text → decode_pairs i text ≡ Ok bytes
unfolding decode_pairs
all_read i [] text e = rw e refl
all_read i (b ∷ bs) text (high, low, rest, e, h, l, byte, behind) =
    let first : value_at high i ≡ Ok (hex_value high) = ap (digit_or_error high i) (value_of high h) in
    let second : value_at low (i + 1) ≡ Ok (hex_value low) = ap (digit_or_error low (i + 1)) (value_of low l) in
    let pair : pair_value high low i ≡ Ok (hex_value high * 16 + hex_value low) = rw (first, second) refl in
    let here = decode_pairs-ok_pair i high low (hex_value high * 16 + hex_value low) rest pair in
    rw e (here ∙ ap (cons_byte (hex_value high * 16 + hex_value low)) (all_read (i + 2) bs rest behind) ∙ ap (λ (v : ℕ). Ok (v ∷ bs)) (sym byte))

-- two digits for each byte
pub twice : (bytes text : List ℕ) → AreHex bytes text → length text ≡ 2 * length bytes
twice [] text e = rw e refl
twice (b ∷ bs) text (high, low, rest, e, h, l, byte, behind) = let more = twice bs rest behind in rw e (omega arith)

pub is_read : (text bytes : List ℕ) → decode_of text ≡ Ok bytes → AreHex bytes text
is_read text bytes h = found 0 text bytes (sym (decode_of-even text (decode_of-ok text bytes h).0) ∙ h)

reads : (bytes text : List ℕ) → AreHex bytes text → decode_of text ≡ Ok bytes
reads bytes text h =
    let both = twice bytes text h in
    let even : length text % 2 ≡ 0 = omega (arith, both) in
    decode_of-even text even ∙ all_read 0 bytes text h

-- a text that the kit refuses is the hexadecimal of no bytes
pub is_refused : (text : List ℕ) (e : FromHexError) → (e ≡ OutOfMemory) ⊎ (decode_of text ≡ Err e) → (e ≡ OutOfMemory → ⊥) → (bytes : List ℕ) → AreHex bytes text → ⊥
is_refused text e (inl memory) other bytes h = other memory
is_refused text e (inr refused) other bytes h = let both = sym refused ∙ reads bytes text h in cc both

-- a text is the hexadecimal of at most one list of bytes
pub one_meaning : (text a b : List ℕ) → AreHex a text → AreHex b text → a ≡ b
one_meaning text a b h k = decode_of-same text a b (reads a text h) (reads b text k)

-- what is written is hexadecimal of the bytes
pub written : (bytes : List ℕ) → AreBytes bytes → AreHex bytes (hex_digits bytes)
written bytes h = is_read (hex_digits bytes) bytes (rw (← encoded bytes h) (decode_of-encode_lower bytes (below bytes h)))

-- ---- what is written of the bytes of a text is the text in lower case

small : (c v : ℕ) → hex_digit_value c ≡ Some v → v < 16
small c v h = grind (arith)

is_below : (m n : ℕ) → m < n → nat_lt m n ≡ true
is_below m n h = grind (arith, nat_tests)

not_below : (m n : ℕ) → n ≤ m → nat_lt m n ≡ false
not_below m n h = grind (arith, nat_tests)

from_upper : (c v : ℕ) → 65 ≤ c → c ≤ 70 → c - 55 ≡ v → hex_digit v ≡ to_ascii_lowercase c
from_upper c v low high e =
    let letter : 10 ≤ v = omega arith in
    let far : c < 91 = omega arith in
    rw (not_below v 10 letter, not_below c 65 low, is_below c 91 far) (omega arith)

from_lower : (c v : ℕ) → 97 ≤ c → c ≤ 102 → c - 87 ≡ v → hex_digit v ≡ to_ascii_lowercase c
from_lower c v low high e =
    let letter : 10 ≤ v = omega arith in
    let over : 91 ≤ c = omega arith in
    let far : 65 ≤ c = omega arith in
    rw (not_below v 10 letter, not_below c 65 far, not_below c 91 over) (omega arith)

from_number : (c v : ℕ) → 48 ≤ c → c ≤ 57 → c - 48 ≡ v → hex_digit v ≡ to_ascii_lowercase c
from_number c v low high e =
    let number : v < 10 = omega arith in
    let far : c < 65 = omega arith in
    rw (is_below v 10 number, is_below c 65 far) (omega arith)

lower : (c v : ℕ) → hex_digit_value c ≡ Some v → hex_digit v ≡ to_ascii_lowercase c
lower c v h = by (nat_le 65 c && nat_le c 70) (nat_le 97 c && nat_le c 102) (nat_le 48 c && nat_le c 57) refl refl refl h
  where
    by : (s t u : Bool) → (nat_le 65 c && nat_le c 70) ≡ s → (nat_le 97 c && nat_le c 102) ≡ t → (nat_le 48 c && nat_le c 57) ≡ u
        → cond s (Some (c - 55)) (cond t (Some (c - 87)) (cond u (Some (c - 48)) None)) ≡ Some v → hex_digit v ≡ to_ascii_lowercase c
    by true t u i j k h = let p = between 65 70 c i in from_upper c v p.0 p.1 cc
    by false true u i j k h = let p = between 97 102 c j in from_lower c v p.0 p.1 cc
    by false false true i j k h = let p = between 48 57 c k in from_number c v p.0 p.1 cc
    by false false false i j k h = cc

pub in_lower_case : (bytes text : List ℕ) → AreHex bytes text → hex_digits bytes ≡ str_to_ascii_lowercase text
in_lower_case [] text e = rw e refl
in_lower_case (b ∷ bs) text (high, low, rest, e, h, l, byte, behind) =
    let least = small low (hex_value low) (value_of low l) in
    let upper_half : b / 16 ≡ hex_value high = omega (arith, byte, least) in
    let lower_half : b % 16 ≡ hex_value low = omega (arith, byte, least) in
    let first : hex_digit (b / 16) ≡ to_ascii_lowercase high = ap hex_digit upper_half ∙ lower high (hex_value high) (value_of high h) in
    let second : hex_digit (b % 16) ≡ to_ascii_lowercase low = ap hex_digit lower_half ∙ lower low (hex_value low) (value_of low l) in
    rw (e, first, second, in_lower_case bs rest behind) refl
