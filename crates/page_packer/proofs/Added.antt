-- The bytes of a key and of a payload.
use Rattle.std.proofs.Common.{◌≡◌, ℕ, zero, suc, ◌<◌, ◌≤◌, List, [], ◌∷◌, length, take, slice_index_or, Fits, w8, refl, ap, arith}
use Rattle.std.proofs.Math.Facts.{Fits-lt-pow}
use Rattle.std.specs.List.{AllByRecursion}

-- the bytes of a key
pub all_bytes : (k : List ℕ) → ((i : ℕ) → Fits w8 (slice_index_or k i 0)) → AllByRecursion (λ b. b < 256) k
all_bytes [] h = tt
all_bytes (x ∷ xs) h = (Fits-lt-pow (h 0), all_bytes xs (λ i. h (suc i)))

pub take_len : (n : ℕ) (xs : List ℕ) → n ≤ length xs → length (take n xs) ≡ n
take_len zero xs h = refl
take_len (suc n) [] h = absurd (omega arith)
take_len (suc n) (x ∷ xs) h = ap suc (take_len n xs (omega arith))
