-- The bytes of a text of UTF-8 are below 256.
use Rattle.std.proofs.Common.{◌≡◌, ℕ, ◌+◌, ◌/◌, ◌%◌, ◌<◌, ◌≤◌, ◌⊎◌, inl, inr, Bool, true, false, ◌&&◌, cond, List, [], ◌∷◌, ◌++◌, arith, subst, refl}
use Rattle.std.specs.Prelude.{nat_lt}
use Rattle.std.proofs.lemmas.Bool.Decides.{nat_tests}
use Rattle.std.proofs.lemmas.Str.{IsUtf8-from_is_utf8}
use Rattle.std.specs.Str.{is_utf8}
use lib.Utf8.{scalar, scalars, encode, encodes, scalar_cases}
use Rattle.key_types.specs.Kinds.{AreBytes}

below : (c : ℕ) → scalar c ≡ true → c < 1114112
below c h = by (scalar_cases c h)
  where
    by : (c < 55296) ⊎ ((57344 ≤ c) × (c < 1114112)) → c < 1114112
    by (inl l) = omega arith
    by (inr l) = l.1

one_bytes : (c : ℕ) → c < 1114112 → (rest : List ℕ) → AreBytes rest → AreBytes (encode c ++ rest)
unfolding encode
one_bytes c h rest r = by (nat_lt c 128) (nat_lt c 2048) (nat_lt c 65536) refl refl refl
  where
    by : (s t u : Bool) → nat_lt c 128 ≡ s → nat_lt c 2048 ≡ t → nat_lt c 65536 ≡ u
        → AreBytes (cond s (c ∷ []) (cond t ((192 + c / 64) ∷ (128 + c % 64) ∷ []) (cond u ((224 + c / 4096) ∷ (128 + c / 64 % 64) ∷ (128 + c % 64) ∷ []) ((240 + c / 262144) ∷ (128 + c / 4096 % 64) ∷ (128 + c / 64 % 64) ∷ (128 + c % 64) ∷ []))) ++ rest)
    by true t u e f g = (grind (arith, nat_tests), r)
    by false true u e f g = (grind (arith, nat_tests), (omega arith, r))
    by false false true e f g = (grind (arith, nat_tests), (omega arith, (omega arith, r)))
    by false false false e f g = (omega arith, (omega arith, (omega arith, (omega arith, r))))

all_bytes : (cs : List ℕ) → scalars cs ≡ true → AreBytes (encodes cs)
all_bytes [] h = tt
all_bytes (c ∷ cs) h = by (scalar c) refl h (all_bytes cs)
  where
    by : (t : Bool) → scalar c ≡ t → (t && scalars cs) ≡ true → (scalars cs ≡ true → AreBytes (encodes cs)) → AreBytes (encode c ++ encodes cs)
    by true e k f = one_bytes c (below c e) (encodes cs) (f k)
    by false e k f = cc

pub utf8_bytes : (bs : List ℕ) → is_utf8 bs ≡ true → AreBytes bs
utf8_bytes bs h = let u = IsUtf8-from_is_utf8 bs h in subst AreBytes u.1.1 (all_bytes u.0 u.1.0)
