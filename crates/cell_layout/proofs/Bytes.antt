-- The bytes of a word after a byte is set. Each case has literal powers, which `omega` divides by.
use Rattle.std.proofs.Common.{◌≡◌, ◌≢◌, ℕ, zero, suc, ◌+◌, ◌*◌, ◌/◌, ◌%◌, ◌^◌, ◌<◌, refl, arith}
use Rattle.cell_layout.specs.Words.{byte_of, with_byte}

pub set_here : (x b n : ℕ) → n < 6 → b < 256 → byte_of (with_byte x n b) n ≡ b
set_here x b zero s l = let e : (x / 2 ^ 8 * 2 ^ 8 + b * 2 ^ 0 + x % 2 ^ 0) / 2 ^ 0 % 256 ≡ b = omega arith in e
set_here x b (suc zero) s l = let e : (x / 2 ^ 16 * 2 ^ 16 + b * 2 ^ 8 + x % 2 ^ 8) / 2 ^ 8 % 256 ≡ b = omega arith in e
set_here x b (suc (suc zero)) s l = let e : (x / 2 ^ 24 * 2 ^ 24 + b * 2 ^ 16 + x % 2 ^ 16) / 2 ^ 16 % 256 ≡ b = omega arith in e
set_here x b (suc (suc (suc zero))) s l = let e : (x / 2 ^ 32 * 2 ^ 32 + b * 2 ^ 24 + x % 2 ^ 24) / 2 ^ 24 % 256 ≡ b = omega arith in e
set_here x b (suc (suc (suc (suc zero)))) s l = let e : (x / 2 ^ 40 * 2 ^ 40 + b * 2 ^ 32 + x % 2 ^ 32) / 2 ^ 32 % 256 ≡ b = omega arith in e
set_here x b (suc (suc (suc (suc (suc zero))))) s l = let e : (x / 2 ^ 48 * 2 ^ 48 + b * 2 ^ 40 + x % 2 ^ 40) / 2 ^ 40 % 256 ≡ b = omega arith in e
set_here x b (suc (suc (suc (suc (suc (suc n)))))) s l = absurd (omega arith)

pub set_other : (x b n j : ℕ) → n < 6 → j < 6 → j ≢ n → b < 256 → byte_of (with_byte x n b) j ≡ byte_of x j
set_other x b zero zero s t ne l = absurd (ne refl)
set_other x b zero (suc zero) s t ne l = let e : (x / 2 ^ 8 * 2 ^ 8 + b * 2 ^ 0 + x % 2 ^ 0) / 2 ^ 8 % 256 ≡ x / 2 ^ 8 % 256 = omega arith in e
set_other x b zero (suc (suc zero)) s t ne l = let e : (x / 2 ^ 8 * 2 ^ 8 + b * 2 ^ 0 + x % 2 ^ 0) / 2 ^ 16 % 256 ≡ x / 2 ^ 16 % 256 = omega arith in e
set_other x b zero (suc (suc (suc zero))) s t ne l = let e : (x / 2 ^ 8 * 2 ^ 8 + b * 2 ^ 0 + x % 2 ^ 0) / 2 ^ 24 % 256 ≡ x / 2 ^ 24 % 256 = omega arith in e
set_other x b zero (suc (suc (suc (suc zero)))) s t ne l = let e : (x / 2 ^ 8 * 2 ^ 8 + b * 2 ^ 0 + x % 2 ^ 0) / 2 ^ 32 % 256 ≡ x / 2 ^ 32 % 256 = omega arith in e
set_other x b zero (suc (suc (suc (suc (suc zero))))) s t ne l = let e : (x / 2 ^ 8 * 2 ^ 8 + b * 2 ^ 0 + x % 2 ^ 0) / 2 ^ 40 % 256 ≡ x / 2 ^ 40 % 256 = omega arith in e
set_other x b zero (suc (suc (suc (suc (suc (suc j)))))) s t ne l = absurd (omega arith)
set_other x b (suc zero) zero s t ne l = let e : (x / 2 ^ 16 * 2 ^ 16 + b * 2 ^ 8 + x % 2 ^ 8) / 2 ^ 0 % 256 ≡ x / 2 ^ 0 % 256 = omega arith in e
set_other x b (suc zero) (suc zero) s t ne l = absurd (ne refl)
set_other x b (suc zero) (suc (suc zero)) s t ne l = let e : (x / 2 ^ 16 * 2 ^ 16 + b * 2 ^ 8 + x % 2 ^ 8) / 2 ^ 16 % 256 ≡ x / 2 ^ 16 % 256 = omega arith in e
set_other x b (suc zero) (suc (suc (suc zero))) s t ne l = let e : (x / 2 ^ 16 * 2 ^ 16 + b * 2 ^ 8 + x % 2 ^ 8) / 2 ^ 24 % 256 ≡ x / 2 ^ 24 % 256 = omega arith in e
set_other x b (suc zero) (suc (suc (suc (suc zero)))) s t ne l = let e : (x / 2 ^ 16 * 2 ^ 16 + b * 2 ^ 8 + x % 2 ^ 8) / 2 ^ 32 % 256 ≡ x / 2 ^ 32 % 256 = omega arith in e
set_other x b (suc zero) (suc (suc (suc (suc (suc zero))))) s t ne l = let e : (x / 2 ^ 16 * 2 ^ 16 + b * 2 ^ 8 + x % 2 ^ 8) / 2 ^ 40 % 256 ≡ x / 2 ^ 40 % 256 = omega arith in e
set_other x b (suc zero) (suc (suc (suc (suc (suc (suc j)))))) s t ne l = absurd (omega arith)
set_other x b (suc (suc zero)) zero s t ne l = let e : (x / 2 ^ 24 * 2 ^ 24 + b * 2 ^ 16 + x % 2 ^ 16) / 2 ^ 0 % 256 ≡ x / 2 ^ 0 % 256 = omega arith in e
set_other x b (suc (suc zero)) (suc zero) s t ne l = let e : (x / 2 ^ 24 * 2 ^ 24 + b * 2 ^ 16 + x % 2 ^ 16) / 2 ^ 8 % 256 ≡ x / 2 ^ 8 % 256 = omega arith in e
set_other x b (suc (suc zero)) (suc (suc zero)) s t ne l = absurd (ne refl)
set_other x b (suc (suc zero)) (suc (suc (suc zero))) s t ne l = let e : (x / 2 ^ 24 * 2 ^ 24 + b * 2 ^ 16 + x % 2 ^ 16) / 2 ^ 24 % 256 ≡ x / 2 ^ 24 % 256 = omega arith in e
set_other x b (suc (suc zero)) (suc (suc (suc (suc zero)))) s t ne l = let e : (x / 2 ^ 24 * 2 ^ 24 + b * 2 ^ 16 + x % 2 ^ 16) / 2 ^ 32 % 256 ≡ x / 2 ^ 32 % 256 = omega arith in e
set_other x b (suc (suc zero)) (suc (suc (suc (suc (suc zero))))) s t ne l = let e : (x / 2 ^ 24 * 2 ^ 24 + b * 2 ^ 16 + x % 2 ^ 16) / 2 ^ 40 % 256 ≡ x / 2 ^ 40 % 256 = omega arith in e
set_other x b (suc (suc zero)) (suc (suc (suc (suc (suc (suc j)))))) s t ne l = absurd (omega arith)
set_other x b (suc (suc (suc zero))) zero s t ne l = let e : (x / 2 ^ 32 * 2 ^ 32 + b * 2 ^ 24 + x % 2 ^ 24) / 2 ^ 0 % 256 ≡ x / 2 ^ 0 % 256 = omega arith in e
set_other x b (suc (suc (suc zero))) (suc zero) s t ne l = let e : (x / 2 ^ 32 * 2 ^ 32 + b * 2 ^ 24 + x % 2 ^ 24) / 2 ^ 8 % 256 ≡ x / 2 ^ 8 % 256 = omega arith in e
set_other x b (suc (suc (suc zero))) (suc (suc zero)) s t ne l = let e : (x / 2 ^ 32 * 2 ^ 32 + b * 2 ^ 24 + x % 2 ^ 24) / 2 ^ 16 % 256 ≡ x / 2 ^ 16 % 256 = omega arith in e
set_other x b (suc (suc (suc zero))) (suc (suc (suc zero))) s t ne l = absurd (ne refl)
set_other x b (suc (suc (suc zero))) (suc (suc (suc (suc zero)))) s t ne l = let e : (x / 2 ^ 32 * 2 ^ 32 + b * 2 ^ 24 + x % 2 ^ 24) / 2 ^ 32 % 256 ≡ x / 2 ^ 32 % 256 = omega arith in e
set_other x b (suc (suc (suc zero))) (suc (suc (suc (suc (suc zero))))) s t ne l = let e : (x / 2 ^ 32 * 2 ^ 32 + b * 2 ^ 24 + x % 2 ^ 24) / 2 ^ 40 % 256 ≡ x / 2 ^ 40 % 256 = omega arith in e
set_other x b (suc (suc (suc zero))) (suc (suc (suc (suc (suc (suc j)))))) s t ne l = absurd (omega arith)
set_other x b (suc (suc (suc (suc zero)))) zero s t ne l = let e : (x / 2 ^ 40 * 2 ^ 40 + b * 2 ^ 32 + x % 2 ^ 32) / 2 ^ 0 % 256 ≡ x / 2 ^ 0 % 256 = omega arith in e
set_other x b (suc (suc (suc (suc zero)))) (suc zero) s t ne l = let e : (x / 2 ^ 40 * 2 ^ 40 + b * 2 ^ 32 + x % 2 ^ 32) / 2 ^ 8 % 256 ≡ x / 2 ^ 8 % 256 = omega arith in e
set_other x b (suc (suc (suc (suc zero)))) (suc (suc zero)) s t ne l = let e : (x / 2 ^ 40 * 2 ^ 40 + b * 2 ^ 32 + x % 2 ^ 32) / 2 ^ 16 % 256 ≡ x / 2 ^ 16 % 256 = omega arith in e
set_other x b (suc (suc (suc (suc zero)))) (suc (suc (suc zero))) s t ne l = let e : (x / 2 ^ 40 * 2 ^ 40 + b * 2 ^ 32 + x % 2 ^ 32) / 2 ^ 24 % 256 ≡ x / 2 ^ 24 % 256 = omega arith in e
set_other x b (suc (suc (suc (suc zero)))) (suc (suc (suc (suc zero)))) s t ne l = absurd (ne refl)
set_other x b (suc (suc (suc (suc zero)))) (suc (suc (suc (suc (suc zero))))) s t ne l = let e : (x / 2 ^ 40 * 2 ^ 40 + b * 2 ^ 32 + x % 2 ^ 32) / 2 ^ 40 % 256 ≡ x / 2 ^ 40 % 256 = omega arith in e
set_other x b (suc (suc (suc (suc zero)))) (suc (suc (suc (suc (suc (suc j)))))) s t ne l = absurd (omega arith)
set_other x b (suc (suc (suc (suc (suc zero))))) zero s t ne l = let e : (x / 2 ^ 48 * 2 ^ 48 + b * 2 ^ 40 + x % 2 ^ 40) / 2 ^ 0 % 256 ≡ x / 2 ^ 0 % 256 = omega arith in e
set_other x b (suc (suc (suc (suc (suc zero))))) (suc zero) s t ne l = let e : (x / 2 ^ 48 * 2 ^ 48 + b * 2 ^ 40 + x % 2 ^ 40) / 2 ^ 8 % 256 ≡ x / 2 ^ 8 % 256 = omega arith in e
set_other x b (suc (suc (suc (suc (suc zero))))) (suc (suc zero)) s t ne l = let e : (x / 2 ^ 48 * 2 ^ 48 + b * 2 ^ 40 + x % 2 ^ 40) / 2 ^ 16 % 256 ≡ x / 2 ^ 16 % 256 = omega arith in e
set_other x b (suc (suc (suc (suc (suc zero))))) (suc (suc (suc zero))) s t ne l = let e : (x / 2 ^ 48 * 2 ^ 48 + b * 2 ^ 40 + x % 2 ^ 40) / 2 ^ 24 % 256 ≡ x / 2 ^ 24 % 256 = omega arith in e
set_other x b (suc (suc (suc (suc (suc zero))))) (suc (suc (suc (suc zero)))) s t ne l = let e : (x / 2 ^ 48 * 2 ^ 48 + b * 2 ^ 40 + x % 2 ^ 40) / 2 ^ 32 % 256 ≡ x / 2 ^ 32 % 256 = omega arith in e
set_other x b (suc (suc (suc (suc (suc zero))))) (suc (suc (suc (suc (suc zero))))) s t ne l = absurd (ne refl)
set_other x b (suc (suc (suc (suc (suc zero))))) (suc (suc (suc (suc (suc (suc j)))))) s t ne l = absurd (omega arith)
set_other x b (suc (suc (suc (suc (suc (suc n)))))) j s t ne l = absurd (omega arith)
