-- Numbers below 256, by place and by recursion.
use Rattle.std.proofs.Common.{◌≡◌, ℕ, ◌<◌, List, [], ◌∷◌, get_or, suc, arith, refl, Bool, true}
use Rattle.std.proofs.lemmas.Bool.Decides.{nat_tests}
use Rattle.std.specs.Prelude.{nat_lt, IsTrue, ◌&&◌}
use Rattle.key_types.specs.Kinds.{AreBytes, all_bytes}

pub are_bytes : (bs : List ℕ) → ((i : ℕ) → get_or bs i 0 < 256) → AreBytes bs
are_bytes [] h = tt
are_bytes (b ∷ bs) h = (h 0, are_bytes bs (λ i. h (suc i)))

both : (p q : Bool) → p ≡ true → q ≡ true → (p && q) ≡ true
both p q g h = rw (g, h) refl

below_byte : (b : ℕ) → b < 256 → nat_lt b 256 ≡ true
below_byte b h = grind (arith, nat_tests)

pub pass_bytes : (bs : List ℕ) → AreBytes bs → IsTrue (all_bytes bs)
pass_bytes [] h = refl
pass_bytes (b ∷ bs) h = both (nat_lt b 256) (all_bytes bs) (below_byte b h.0) (pass_bytes bs h.1)
