-- Numbers as payloads: big-endian, with the fewest bytes, at least one.
use Rattle.std.specs.Prelude.{◌≡◌, ◌≤◌, ◌<◌, ℕ, ℤ, pos, negsuc, ◌-◌, ◌*◌, ◌^◌, List, length, if◌then◌else◌, nat_lt}
use Rattle.byteorder.specs.Endian.{big_bytes, big_number, twos_complement}

-- how many bytes, at least one, a number below 2 ^ 56 takes
abbrev pub bytes_for : ℕ → ℕ
bytes_for n =
    if nat_lt n (2 ^ 8) then 1 else if nat_lt n (2 ^ 16) then 2 else if nat_lt n (2 ^ 24) then 3 else if nat_lt n (2 ^ 32) then 4
    else if nat_lt n (2 ^ 40) then 5 else if nat_lt n (2 ^ 48) then 6 else 7

abbrev pub unsigned_bytes : ℕ → List ℕ
unsigned_bytes n = big_bytes (bytes_for n) n

-- a number of k bits is one of k + 1 bits with its sign
abbrev pub doubled : ℤ → ℕ
doubled (pos n) = 2 * n
doubled (negsuc n) = 2 * n

-- two's complement
abbrev pub signed_bytes : ℤ → List ℕ
signed_bytes (pos n) = big_bytes (bytes_for (2 * n)) n
signed_bytes (negsuc n) = let k = bytes_for (2 * n) in big_bytes k (2 ^ (8 * k) - 1 - n)

-- the number that a payload spells, without a sign
abbrev pub unsigned_number : List ℕ → ℕ
unsigned_number bytes = big_number (length bytes) bytes

-- and with a sign
abbrev pub signed_number : List ℕ → ℤ
signed_number bytes = twos_complement (length bytes) (big_number (length bytes) bytes)

-- no fewer bytes, at least one, can hold the number
abbrev pub IsFewest : ℕ → ℕ → Type 0
IsFewest n k = (j : ℕ) → 1 ≤ j → n < 256 ^ j → k ≤ j

-- the bytes of a number read as that number, and are the fewest that can
pub record IsUnsigned (n : ℕ) (bytes : List ℕ) : Type 0 where
  pub reads : unsigned_number bytes ≡ n
  pub fewest : IsFewest n (length bytes)

pub record IsSigned (z : ℤ) (bytes : List ℕ) : Type 0 where
  pub reads : signed_number bytes ≡ z
  pub fewest : IsFewest (doubled z) (length bytes)

-- the payload calls' numbers
abbrev pub NumbersRead : Type 0
NumbersRead = ((n : ℕ) → n < 2 ^ 56 → IsUnsigned n (unsigned_bytes n)) × ((z : ℤ) → doubled z < 2 ^ 56 → IsSigned z (signed_bytes z))
