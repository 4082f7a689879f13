-- Numbers of any size, and the cap under which the code reads them.
use Rattle.std.proofs.Common.{◌≡◌, ℕ, ◌+◌, ◌-◌, ◌*◌, ◌^◌, Bool, true, false, cond, min, List, [], ◌∷◌, Result, Ok, ap, arith}
use Rattle.std.proofs.lemmas.Bool.Decides.{nat_tests}
use Rattle.key_text.specs.Reading.{digits_at, capped_all}
use Rattle.key_text.specs.Tokens.{is_digit}

abbrev most : ℕ
most = 2 ^ 64 - 1

-- of numbers that are one under the cap, further digits make numbers that are one under the cap
abbrev Same : ℕ → ℕ → List ℕ → Type 0
Same m n bs = min m (2 ^ 64 - 1) ≡ min n (2 ^ 64 - 1) → capped_all (digits_at m bs) ≡ capped_all (digits_at n bs)

by : (t : Bool) (m n b : ℕ) (bs : List ℕ) → min m (2 ^ 64 - 1) ≡ min n (2 ^ 64 - 1) → Same (m * 10 + (b - 48)) (n * 10 + (b - 48)) bs
    → capped_all (cond {A = Result (ℕ × List ℕ) ℕ} t (digits_at (m * 10 + (b - 48)) bs) (Ok (m, b ∷ bs))) ≡ capped_all (cond {A = Result (ℕ × List ℕ) ℕ} t (digits_at (n * 10 + (b - 48)) bs) (Ok (n, b ∷ bs)))
by true m n b bs h same = same (grind (arith, nat_tests))
by false m n b bs h same = ap (λ k. Ok (k, b ∷ bs)) h

pub capped_digits : (m n : ℕ) (bs : List ℕ) → Same m n bs
capped_digits m n [] h = ap (λ k. Ok (k, [])) h
capped_digits m n (b ∷ bs) h = by (is_digit b) m n b bs h (capped_digits (m * 10 + (b - 48)) (n * 10 + (b - 48)) bs)
