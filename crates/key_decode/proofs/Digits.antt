-- Numbers and their bytes.
use Rattle.std.proofs.Common.{◌≡◌, ℕ, zero, suc, ◌+◌, ◌*◌, ◌/◌, ◌%◌, ◌^◌, ◌<◌, List, [], ◌∷◌, length, arith, refl, sym, ◌∙◌, ap}
use Rattle.std.specs.Prelude.{ℤ, pos, negsuc, ◌-ℤ◌, IsTrue}
use Rattle.std.specs.Int.{bytes_high_first, byte_at}
use Rattle.std.proofs.lemmas.Bool.Decides.{nat_tests}
use Rattle.std.proofs.lemmas.Int.{ints}
use Rattle.std.proofs.lemmas.Nat.{div-mul-add, mod-mul-add, mul-add-lt, div-add-mod', mod_below}
use Rattle.key_types.specs.Kinds.{within, AreBytes}
use Rattle.byte_comparable.specs.Encoding.{unsigned_of}
use Rattle.byte_comparable.proofs.Numbers.{Within, byte_is, positive}
use Rattle.key_decode.specs.Reading.{lowered}
use Rattle.key_decode.proofs.Exact.{value_from}

spread : (n b p v : ℕ) → (n * 256 + b) * p + v ≡ n * (256 * p) + (b * p + v)
spread n b p v = grind arith

power : (k : ℕ) → 256 ^ suc k ≡ 256 * 256 ^ k
power k = omega arith

-- a number with further digits, as a sum
pub from_sum : (n : ℕ) (bs : List ℕ) → value_from n bs ≡ n * 256 ^ length bs + value_from 0 bs
from_sum n [] = omega arith
from_sum n (b ∷ bs) =
    let p = 256 ^ length bs in
    from_sum (n * 256 + b) bs ∙ spread n b p (value_from 0 bs) ∙ ap (λ x. n * x + (b * p + value_from 0 bs)) (sym (power (length bs)))
    ∙ ap (λ x. n * 256 ^ suc (length bs) + x) (sym (from_sum b bs) ∙ ap (λ x. value_from x bs) (let e : b ≡ 0 * 256 + b = omega arith in e))

pub from_below : (bs : List ℕ) → AreBytes bs → value_from 0 bs < 256 ^ length bs
from_below [] h = omega arith
from_below (b ∷ bs) h =
    let p = 256 ^ length bs in
    let sum : value_from 0 (b ∷ bs) ≡ b * p + value_from 0 bs = ap (λ x. value_from x bs) (let e : 0 * 256 + b ≡ b = omega arith in e) ∙ from_sum b bs in
    let most : b * p + value_from 0 bs < p * 256 = mul-add-lt b p (value_from 0 bs) 256 h.0 (from_below bs h.1) in
    let up = power (length bs) in
    omega arith

-- the bytes of a number with further digits are these digits
pub digits : (n : ℕ) (bs : List ℕ) → AreBytes bs → bytes_high_first (length bs) (value_from n bs) ≡ bs
digits n [] h = refl
digits n (b ∷ bs) h =
    let k = length bs in
    let m = n * 256 + b in
    let first : byte_at k (value_from m bs) ≡ b =
    byte_is k (value_from m bs) ∙ ap (λ x. x / 256 ^ k % 256) (from_sum m bs) ∙ ap (λ x. x % 256) (div-mul-add m (256 ^ k) (value_from 0 bs) (from_below bs h.1)) ∙ mod-mul-add n 256 b h.0 in
    ap (λ x. x ∷ bytes_high_first k (value_from m bs)) first ∙ ap (λ l. b ∷ l) (digits m bs h.1)

-- and the number is that of its bytes
pub bytes_long : (k n : ℕ) → length (bytes_high_first k n) ≡ k
bytes_long zero n = refl
bytes_long (suc k) n = ap suc (bytes_long k n)

pub from_bytes : (m k n : ℕ) → value_from m (bytes_high_first k n) ≡ m * 256 ^ k + n % 256 ^ k
from_bytes m zero n = omega arith
from_bytes m (suc k) n =
    let p = 256 ^ k in
    let q = n / p in
    let b = q % 256 in
    let low = n % p in
    let split : n % 256 ^ suc k ≡ b * p + low = ap (λ x. n % x) (power k) ∙ parts n p (positive k) in
    ap (λ x. value_from (m * 256 + x) (bytes_high_first k n)) (byte_is k n) ∙ from_bytes (m * 256 + b) k n ∙ spread m b p low ∙ ap (λ x. m * x + (b * p + low)) (sym (power k)) ∙ ap (λ x. m * 256 ^ suc k + x) (sym split)
  where
    wide : (a b w : ℕ) → (a * 256 + b) * w ≡ a * (256 * w) + b * w
    wide a b w = grind arith

    parts : (m w : ℕ) → 0 < w → m % (256 * w) ≡ (m / w % 256) * w + m % w
    parts m w h =
        let q = m / w in
        let whole : m ≡ q / 256 * (256 * w) + (q % 256 * w + m % w) =
        sym (div-add-mod' m w) ∙ ap (λ x. x * w + m % w) (sym (div-add-mod' q 256)) ∙ ap (λ x. x + m % w) (wide (q / 256) (q % 256) w) ∙ omega arith in
        let fits : q % 256 * w + m % w < w * 256 = mul-add-lt (q % 256) w (m % w) 256 (mod_below q 256 (omega arith)) (mod_below m w h) in
        ap (λ x. x % (256 * w)) whole ∙ mod-mul-add (q / 256) (256 * w) (q % 256 * w + m % w) (omega arith)

-- ---- signed numbers

raised_by : (half n : ℕ) (x : ℤ) → x ≡ pos n -ℤ pos half → unsigned_of half x ≡ n
raised_by half n (pos m) e = omega (arith, ints)
raised_by half n (negsuc m) e = omega (arith, ints)

pub raised : (half n : ℕ) → unsigned_of half (lowered half n) ≡ n
raised half n = raised_by half n (lowered half n) refl

within_by : (half n : ℕ) (x : ℤ) → n < half + half → x ≡ pos n -ℤ pos half → Within half x
within_by half n (pos m) h e = omega (arith, ints)
within_by half n (negsuc m) h e = omega (arith, ints)

pub lowered_within : (half n : ℕ) → n < half + half → Within half (lowered half n)
lowered_within half n h = within_by half n (lowered half n) h refl

pub lowered_again : (half : ℕ) (x : ℤ) → Within half x → lowered half (unsigned_of half x) ≡ x
lowered_again half (pos n) h = omega (arith, ints)
lowered_again half (negsuc n) h = omega (arith, ints)

pub of_7 : (x : ℤ) → Within (2 ^ 7) x → IsTrue (within (negsuc 127) (pos 128) x)
of_7 (pos n) h = grind (arith, nat_tests)
of_7 (negsuc n) h = grind (arith, nat_tests)

pub of_15 : (x : ℤ) → Within (2 ^ 15) x → IsTrue (within (negsuc 32767) (pos 32768) x)
of_15 (pos n) h = grind (arith, nat_tests)
of_15 (negsuc n) h = grind (arith, nat_tests)

pub of_31 : (x : ℤ) → Within (2 ^ 31) x → IsTrue (within (negsuc 2147483647) (pos 2147483648) x)
of_31 (pos n) h = grind (arith, nat_tests)
of_31 (negsuc n) h = grind (arith, nat_tests)

pub of_63 : (x : ℤ) → Within (2 ^ 63) x → IsTrue (within (negsuc 9223372036854775807) (pos 9223372036854775808) x)
of_63 (pos n) h = grind (arith, nat_tests)
of_63 (negsuc n) h = grind (arith, nat_tests)
