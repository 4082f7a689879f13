-- How the code reads encodings from the front of bytes: only private contracts cite it. That it reads exactly the encodings is proved.
use Rattle.std.specs.Prelude.{◌≡◌, ℕ, zero, suc, ◌+◌, ◌-◌, ◌*◌, ◌^◌, ◌==◌, ◌&&◌, nat_lt, nat_le, Bool, true, false, List, [], ◌∷◌, map, ℤ, pos, negsuc, ◌-ℤ◌, length, Result, Ok, Err, if◌then◌else◌}
use Rattle.grammar.specs.Exact.{Read}
use Rattle.grammar.specs.Reading.{then_read, map_read, given_at, by_first, onto}
use Rattle.key_types.specs.Kinds.{Kind, tiny, small, int, big, text, blob, boolean, tuple, reversed, Kinds, end, more, Val, number, bytes, truth, values, Vals, none, and}
use Rattle.byte_comparable.specs.Encoding.{separator, terminator}

-- ---- texts and blobs

abbrev mutual
  pub text_at : List ℕ → Result (List ℕ × List ℕ) ℕ
  text_at [] = Err 0
  text_at (b ∷ bs) = if b == 0 then after_zero bs else onto b (text_at bs)

  -- behind a zero, where the text may end
  pub after_zero : List ℕ → Result (List ℕ × List ℕ) ℕ
  after_zero [] = Ok ([], [])
  after_zero (b ∷ bs) = if b == 0xFE then onto 0 (after_zero bs) else (if b == 0xFF then onto 0 (after_run bs) else Ok ([], b ∷ bs))

  -- behind a run of zeros, where another byte has to stand
  pub after_run : List ℕ → Result (List ℕ × List ℕ) ℕ
  after_run [] = Err 0
  after_run (b ∷ bs) = if b == 0 then Err (length bs + 1) else onto b (text_at bs)

-- what ends a text
abbrev pub EndsText : ℕ → Type 0
EndsText b = ((b == 0xFE) ≡ false) × ((b == 0xFF) ≡ false)

-- ---- numbers

-- so many bytes behind a number, as its further digits
abbrev pub unsigned_at : ℕ → ℕ → Read ℕ
unsigned_at zero n bs = Ok (n, bs)
unsigned_at (suc k) n [] = Err 0
unsigned_at (suc k) n (b ∷ bs) = unsigned_at k (n * 256 + b) bs

-- a byte from a bound on
abbrev pub is_from : ℕ → ℕ → Bool
is_from low b = nat_le low b && nat_lt b 256

abbrev pub byte_from : ℕ → Read ℕ
byte_from low [] = Err 0
byte_from low (b ∷ bs) = if is_from low b then Ok (b, bs) else Err (length bs + 1)

-- how many bytes stand behind the first one of a bigint, where they aren't eight
abbrev pub count_behind : ℕ → ℕ
count_behind b =
    if nat_lt b 0xC0 then 0
    else if nat_lt b 0xE0 then 1
    else if nat_lt b 0xF0 then 2
    else if nat_lt b 0xF8 then 3
    else if nat_lt b 0xFC then 4
    else if nat_lt b 0xFE then 5
    else if nat_lt b 0xFF then 6
    else 7

-- the least first byte with so many behind it
abbrev pub base : ℕ → ℕ
base k = 256 - 2 ^ (7 - k)

-- the least second byte: a number that fewer bytes can hold is none
abbrev pub least_second : ℕ → ℕ → ℕ
least_second k b = if b == base k then 2 ^ (7 - k) else 0

-- a bigint of nine bytes, behind its second byte
abbrev pub nine_at : ℕ → Read ℕ
nine_at c = then_read (byte_from (if c == 128 then 128 else 0)) (λ d. unsigned_at 6 ((c - 128) * 256 + d))

-- a bigint behind its second byte
abbrev pub third_at : ℕ → ℕ → ℕ → Read ℕ
third_at j b c = if j == 6 && nat_le 128 c then nine_at c else unsigned_at j ((b - base (suc j)) * 256 + c)

-- a bigint behind its first byte
abbrev pub second_at : ℕ → ℕ → Read ℕ
second_at zero b = unsigned_at 0 (b - 128)
second_at (suc j) b = then_read (byte_from (least_second (suc j) b)) (third_at j b)

-- a bigint from 0 up
abbrev pub long_at : Read ℕ
long_at = then_read (byte_from 128) (λ b. second_at (count_behind b) b)

-- ---- the complement

-- the complement of a byte; other numbers stay, so that it is its own inverse
abbrev pub byte_complement : ℕ → ℕ
byte_complement b = if nat_lt b 256 then 255 - b else b

abbrev pub complemented : List ℕ → List ℕ
complemented bs = map byte_complement bs

abbrev pub back : {A : Type 0} → Result (A × List ℕ) ℕ → Result (A × List ℕ) ℕ
back (Ok x) = Ok (x.0, complemented x.1)
back (Err e) = Err e

abbrev pub complement_read : {A : Type 0} → Read A → Read A
complement_read r bs = back (r (complemented bs))

-- the bytes as they stand, or their complements
abbrev pub seen : Bool → List ℕ → List ℕ
seen false bs = bs
seen true bs = complemented bs

-- ---- values

abbrev pub lowered : ℕ → ℕ → ℤ
lowered half n = pos n -ℤ pos half

abbrev pub signed_at : ℕ → ℕ → Read Val
signed_at k half = map_read (λ n. number (lowered half n)) (unsigned_at k 0)

abbrev pub is_high : ℕ → Bool
is_high b = nat_le 128 b

abbrev pub big_at : Read Val
big_at = by_first is_high (map_read (λ n. number (pos n)) long_at) (map_read (λ n. number (negsuc n)) (complement_read long_at))

abbrev pub truth_byte_at : Read Val
truth_byte_at [] = Err 0
truth_byte_at (b ∷ bs) = if b == 0 then Ok (truth false, bs) else (if b == 1 then Ok (truth true, bs) else Err (length bs + 1))

abbrev mutual
  pub value_at : Kind → Read Val
  value_at tiny = signed_at 1 (2 ^ 7)
  value_at small = signed_at 2 (2 ^ 15)
  value_at int = signed_at 4 (2 ^ 31)
  value_at big = big_at
  value_at text = map_read bytes text_at
  value_at blob = map_read bytes text_at
  value_at boolean = truth_byte_at
  value_at (tuple ts) = map_read values (values_at ts)
  value_at (reversed t) = complement_read (value_at t)

  -- components, and the terminator
  pub values_at : Kinds → Read Vals
  values_at end = map_read (λ _. none) (given_at (terminator ∷ []))
  values_at (more t ts) = then_read (given_at (separator ∷ [])) (λ _. then_read (value_at t) (λ v. map_read (and v) (values_at ts)))
