-- The bytes of a value of a key component, made after ByteComparable.md of Apache Cassandra.
use Rattle.std.specs.Prelude.{ℕ, zero, suc, ◌+◌, ◌-◌, ◌/◌, ◌^◌, true, false, List, [], ◌∷◌, ◌++◌, map, replicate, ℤ, pos, negsuc, if◌then◌else◌, nat_lt, ◌==◌}
use Rattle.std.specs.Int.{bytes_high_first}
use Rattle.key_types.specs.Kinds.{Kind, tiny, small, int, big, text, blob, boolean, tuple, reversed, Kinds, more, Val, number, bytes, truth, values, Vals, and, Fits}

-- each byte the other way round (ByteComparable.md: reversed types)
abbrev pub complement : List ℕ → List ℕ
complement bs = map (λ b. 255 - b) bs

-- a signed number, as an unsigned one that counts from half below zero on: the sign bit is inverted
abbrev pub unsigned_of : ℕ → ℤ → ℕ
unsigned_of half (pos n) = n + half
unsigned_of half (negsuc n) = half - (n + 1)

-- a number in so many bytes: in bits a 1 for each byte, a 0 and the number, the greatest bit first (ByteComparable.md: variable-length integers)
abbrev pub sized : ℕ → ℕ → List ℕ
sized zero n = []
sized (suc k) n = (256 - 2 ^ (7 - k) + n / 256 ^ k) ∷ bytes_high_first k n

-- a number from 0 up, in the least count of bytes that can hold it
abbrev pub long_bytes : ℕ → List ℕ
long_bytes n =
    if nat_lt n (2 ^ 6) then sized 1 n
    else if nat_lt n (2 ^ 13) then sized 2 n
    else if nat_lt n (2 ^ 20) then sized 3 n
    else if nat_lt n (2 ^ 27) then sized 4 n
    else if nat_lt n (2 ^ 34) then sized 5 n
    else if nat_lt n (2 ^ 41) then sized 6 n
    else if nat_lt n (2 ^ 48) then sized 7 n
    else if nat_lt n (2 ^ 55) then sized 8 n
    else 255 ∷ bytes_high_first 8 (n + 2 ^ 63)

-- a number of bigint: one below zero is the complement of -1 less the number
abbrev pub big_bytes : ℤ → List ℕ
big_bytes (pos n) = long_bytes n
big_bytes (negsuc n) = complement (long_bytes n)

-- so many zeros at the end of a value; none end it with a 0 too (ByteComparable.md: variable-length bytes)
abbrev pub last_zeros : ℕ → List ℕ
last_zeros k = 0 ∷ replicate k 0xFE

-- so many zeros with another byte behind them
abbrev pub zero_run : ℕ → List ℕ
zero_run zero = []
zero_run (suc k) = 0 ∷ (replicate k 0xFE ++ 0xFF ∷ [])

-- the rest of a value behind so many zeros: a run of zeros is spelled with its whole length, every other byte stands as it is
abbrev pub escaped_after : ℕ → List ℕ → List ℕ
escaped_after k [] = last_zeros k
escaped_after k (b ∷ bs) = if b == 0 then escaped_after (suc k) bs else zero_run k ++ b ∷ escaped_after 0 bs

-- a text or a blob
abbrev pub escaped : List ℕ → List ℕ
escaped bs = escaped_after 0 bs

-- the byte before each component, and the byte behind the last (ByteComparable.md: separators and terminators)
abbrev pub separator : ℕ
separator = 0x40

abbrev pub terminator : ℕ
terminator = 0x38

-- the encoding of a value of a type, by cases on the type (ByteComparable.md); a value that is none of the type has no bytes
abbrev mutual
  pub encoding : Kind → Val → List ℕ
  encoding tiny (number n) = bytes_high_first 1 (unsigned_of (2 ^ 7) n)
  encoding small (number n) = bytes_high_first 2 (unsigned_of (2 ^ 15) n)
  encoding int (number n) = bytes_high_first 4 (unsigned_of (2 ^ 31) n)
  encoding big (number n) = big_bytes n
  encoding text (bytes b) = escaped b
  encoding blob (bytes b) = escaped b
  encoding boolean (truth true) = 1 ∷ []
  encoding boolean (truth false) = 0 ∷ []
  encoding (tuple ts) (values vs) = components ts vs ++ terminator ∷ []
  encoding (reversed t) v = complement (encoding t v)
  encoding _ _ = []

  -- the separator and the encoding for each component, as far as there are a type and a value
  pub components : Kinds → Vals → List ℕ
  components (more t ts) (and v vs) = separator ∷ (encoding t v ++ components ts vs)
  components _ _ = []

-- the string of a list of components (ByteComparable.md: the terminator)
abbrev pub key_string : Kinds → Vals → List ℕ
key_string ts vs = components ts vs ++ terminator ∷ []

-- the last bytes of bound strings: below the separator and the terminator, and above them (ByteComparable.md: bounds)
abbrev pub before_rows : ℕ
before_rows = 0x20

abbrev pub after_rows : ℕ
after_rows = 0x60

-- the string of leading components, with a last byte of its own
abbrev pub bound_with : ℕ → Kinds → Vals → List ℕ
bound_with last ts vs = components ts vs ++ last ∷ []

-- values that fit, as far as there are a type and a value
abbrev pub LeadFits : Kinds → Vals → Type 0
LeadFits (more t ts) (and v vs) = Fits t v × LeadFits ts vs
LeadFits _ _ = Unit {0}
