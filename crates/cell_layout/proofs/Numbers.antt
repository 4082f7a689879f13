-- The little-endian number of a few bytes, byte by byte.
use Rattle.std.proofs.Common.{◌≡◌, ℕ, ◌+◌, ◌*◌, ◌≤◌, List, [], ◌∷◌, length, get_or, arith}
use Rattle.cell_layout.specs.Cells.{number_of_bytes}

pub number_by_bytes : (bs : List ℕ) → length bs ≤ 8 → number_of_bytes bs ≡ get_or bs 0 0 + 256 * get_or bs 1 0 + 65536 * get_or bs 2 0 + 16777216 * get_or bs 3 0 + 4294967296 * get_or bs 4 0 + 1099511627776 * get_or bs 5 0 + 281474976710656 * get_or bs 6 0 + 72057594037927936 * get_or bs 7 0
number_by_bytes [] l = omega arith
number_by_bytes (a ∷ []) l = omega arith
number_by_bytes (a ∷ b ∷ []) l = omega arith
number_by_bytes (a ∷ b ∷ c ∷ []) l = omega arith
number_by_bytes (a ∷ b ∷ c ∷ d ∷ []) l = omega arith
number_by_bytes (a ∷ b ∷ c ∷ d ∷ e ∷ []) l = omega arith
number_by_bytes (a ∷ b ∷ c ∷ d ∷ e ∷ f ∷ []) l = omega arith
number_by_bytes (a ∷ b ∷ c ∷ d ∷ e ∷ f ∷ g ∷ []) l = omega arith
number_by_bytes (a ∷ b ∷ c ∷ d ∷ e ∷ f ∷ g ∷ h ∷ []) l = omega arith
number_by_bytes (a ∷ b ∷ c ∷ d ∷ e ∷ f ∷ g ∷ h ∷ i ∷ bs) l = absurd (omega arith)

pub number_of_four : (bs : List ℕ) → length bs ≡ 4 → number_of_bytes bs ≡ get_or bs 0 0 + 256 * get_or bs 1 0 + 65536 * get_or bs 2 0 + 16777216 * get_or bs 3 0
number_of_four [] l = absurd (omega arith)
number_of_four (a ∷ []) l = absurd (omega arith)
number_of_four (a ∷ b ∷ []) l = absurd (omega arith)
number_of_four (a ∷ b ∷ c ∷ []) l = absurd (omega arith)
number_of_four (a ∷ b ∷ c ∷ d ∷ []) l = omega arith
number_of_four (a ∷ b ∷ c ∷ d ∷ e ∷ bs) l = absurd (omega arith)
