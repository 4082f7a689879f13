-- The two signs of a number, and bytes whose tail is turned.
use Rattle.std.proofs.Common.{◌≡◌, ℕ, ◌-◌, List, [], ◌∷◌, ◌++◌, length, take, drop, refl, ap, arith, suc}
use Rattle.std.proofs.lemmas.Int.{ints}
use Rattle.std.specs.Prelude.{ℤ, pos, negsuc, ◌<ℤ◌}
use lib.IntN.{nat_abs}
use Rattle.byte_comparable.specs.Encoding.{complement, long_bytes, big_bytes}

pub big_negative : (x : ℤ) → x <ℤ pos 0 → big_bytes x ≡ complement (long_bytes (nat_abs x - 1))
big_negative (pos n) h = absurd (omega (arith, ints))
big_negative (negsuc n) h = let e : suc n - 1 ≡ n = omega arith in rw e refl

take_all : (xs ys : List ℕ) → take (length xs) (xs ++ ys) ≡ xs
take_all [] ys = refl
take_all (x ∷ xs) ys = ap (λ l. x ∷ l) (take_all xs ys)

drop_all : (xs ys : List ℕ) → drop (length xs) (xs ++ ys) ≡ ys
drop_all [] ys = refl
drop_all (x ∷ xs) ys = drop_all xs ys

pub tail_turned : (xs ys zs : List ℕ) → zs ≡ xs ++ ys → take (length xs) zs ++ complement (drop (length xs) zs) ≡ xs ++ complement ys
tail_turned xs ys zs e = rw (e, take_all xs ys, drop_all xs ys) refl
