-- Bytes behind bytes.
use Rattle.std.proofs.Common.{◌≡◌, ℕ, Bool, true, false, List, [], ◌∷◌, ◌++◌, refl, arith}
use Rattle.std.specs.Prelude.{nat_lt, ◌&&◌}
use Rattle.std.proofs.lemmas.Bool.Decides.{nat_tests}
use Rattle.key_types.specs.Kinds.{AreBytes}

pub bytes_both : (xs ys : List ℕ) → AreBytes xs → AreBytes ys → AreBytes (xs ++ ys)
bytes_both [] ys h k = k
bytes_both (x ∷ xs) ys h k = (h.0, bytes_both xs ys h.1 k)

-- each is below 256, as a test that computes
abbrev pub all_bytes : List ℕ → Bool
all_bytes [] = true
all_bytes (b ∷ bs) = nat_lt b 256 && all_bytes bs

pub are_bytes : (bs : List ℕ) → all_bytes bs ≡ true → AreBytes bs
are_bytes [] h = tt
are_bytes (b ∷ bs) h = by (nat_lt b 256) refl h (are_bytes bs)
  where
    by : (t : Bool) → nat_lt b 256 ≡ t → (t && all_bytes bs) ≡ true → (all_bytes bs ≡ true → AreBytes bs) → AreBytes (b ∷ bs)
    by true e k f = (grind (arith, nat_tests), f k)
    by false e k f = cc
