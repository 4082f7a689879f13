-- The tokens of literals of one word, in their own words. This project's own.
use Rattle.std.specs.Prelude.{◌≡◌, ℕ, ◌+◌, ◌-◌, ◌*◌, ◌&&◌, ◌||◌, ◌⊎◌, nat_le, Bool, List, [], ◌∷◌, ◌++◌, codes, ℤ, pos, neg_ℤ, if◌then◌else◌, IsTrue}

-- 0 to 9
abbrev pub is_digit : ℕ → Bool
is_digit b = nat_le 48 b && nat_le b 57

-- 1 to 9
abbrev pub is_nonzero : ℕ → Bool
is_nonzero b = nat_le 49 b && nat_le b 57

-- the number of more digits behind those of a number
abbrev pub more_digits : ℕ → List ℕ → ℕ
more_digits n [] = n
more_digits n (d ∷ ds) = more_digits (n * 10 + (d - 48)) ds

-- each is a digit
abbrev pub AreDigits : List ℕ → Type 0
AreDigits [] = Unit {0}
AreDigits (d ∷ ds) = IsTrue (is_digit d) × AreDigits ds

-- digits that begin with no 0
abbrev pub IsPositive : ℕ → List ℕ → Type 0
IsPositive n text = (d : ℕ) × (ds : List ℕ) × (text ≡ d ∷ ds) × IsTrue (is_nonzero d) × AreDigits ds × (n ≡ more_digits (d - 48) ds)

-- a number of any size: perhaps a minus, and digits, without leading zeros and without -0
abbrev pub IsNumber : ℤ → List ℕ → Type 0
IsNumber z text =
    ((z ≡ pos 0) × (text ≡ codes "0")) ⊎ ((n : ℕ) × (z ≡ pos n) × IsPositive n text) ⊎ ((n : ℕ) × (z ≡ neg_ℤ (pos n)) × (digits : List ℕ) × (text ≡ 45 ∷ digits) × IsPositive n digits)

-- 0 to 9, a to f, A to F
abbrev pub is_hex : ℕ → Bool
is_hex b = is_digit b || (nat_le 97 b && nat_le b 102) || (nat_le 65 b && nat_le b 70)

-- the value of a hexadecimal digit
abbrev pub hex_value : ℕ → ℕ
hex_value b = if is_digit b then b - 48 else (if nat_le 97 b then b - 87 else b - 55)

-- two digits for each byte
abbrev pub AreHex : List ℕ → List ℕ → Type 0
AreHex [] text = text ≡ []
AreHex (b ∷ bs) text = (high : ℕ) × (low : ℕ) × (rest : List ℕ) × (text ≡ high ∷ low ∷ rest) × IsTrue (is_hex high) × IsTrue (is_hex low) × (b ≡ hex_value high * 16 + hex_value low) × AreHex bs rest

-- 0x and two digits for each byte
abbrev pub IsBlob : List ℕ → List ℕ → Type 0
IsBlob bs text = (digits : List ℕ) × (text ≡ codes "0x" ++ digits) × AreHex bs digits
