-- A half of a word after a store of a half, and the bytes below it.
use Rattle.std.proofs.Common.{◌≡◌, ℕ, zero, suc, ◌+◌, ◌*◌, ◌/◌, ◌%◌, ◌^◌, ◌<◌, Bool, true, false, refl, arith}
use Rattle.cell_layout.specs.Words.{half_of, with_half_of, byte_of}

pub other_half : (x p : ℕ) (h k : Bool) → p < 2 ^ 32 → (h ≡ k → ⊥) → half_of (with_half_of x h p) k ≡ half_of x k
other_half x p true true l ne = absurd (ne refl)
other_half x p true false l ne = omega arith
other_half x p false true l ne = omega arith
other_half x p false false l ne = absurd (ne refl)

pub this_half : (x p : ℕ) (h : Bool) → p < 2 ^ 32 → half_of (with_half_of x h p) h ≡ p
this_half x p true l = omega arith
this_half x p false l = omega arith

-- a store of the high half keeps the four low bytes
pub low_byte : (x p j : ℕ) → j < 4 → byte_of (with_half_of x true p) j ≡ byte_of x j
low_byte x p zero l = let e : (p * 2 ^ 32 + x % 2 ^ 32) / 1 % 256 ≡ x / 1 % 256 = omega arith in e
low_byte x p (suc zero) l = let e : (p * 2 ^ 32 + x % 2 ^ 32) / 256 % 256 ≡ x / 256 % 256 = omega arith in e
low_byte x p (suc (suc zero)) l = let e : (p * 2 ^ 32 + x % 2 ^ 32) / 65536 % 256 ≡ x / 65536 % 256 = omega arith in e
low_byte x p (suc (suc (suc zero))) l = let e : (p * 2 ^ 32 + x % 2 ^ 32) / 16777216 % 256 ≡ x / 16777216 % 256 = omega arith in e
low_byte x p (suc (suc (suc (suc j)))) l = absurd (omega arith)
