-- The word of a sparse node fits in 64 bits, as its order word has at most six digits.
use Rattle.std.proofs.Common.{◌≡◌, ◌≢◌, ℕ, zero, suc, ◌/◌, ◌^◌, ◌<◌, ◌≤◌, List, length, sym, ap, subst, arith, ⊎_elim}
use Rattle.std.proofs.lemmas.Bool.{cases_eq}
use Rattle.cell_layout.specs.Slots.{digits, slots_of, IsSparse}
use Rattle.cell_layout.proofs.Digits.{digits_step, pow_six}

-- a number with fewer digits than are asked for is below six to their number
few_digits : (most n : ℕ) → length (digits most n) < most → n < 6 ^ length (digits most n)
few_digits zero n l = absurd (omega arith)
few_digits (suc most) n l = ⊎_elim
    (λ (z : n ≡ 0). subst (λ (x : ℕ). x < 6 ^ length (digits (suc most) x)) (sym z) (let one : 0 < 1 = omega arith in one))
    (λ (ne : n ≢ 0). let more : length (digits (suc most) n) ≡ suc (length (digits most (n / 6))) = ap (λ (x : List ℕ). length x) (digits_step most n ne) in
    let h : n / 6 < 6 ^ length (digits most (n / 6)) = few_digits most (n / 6) (omega (arith, more)) in
    subst (λ (k : ℕ). n < 6 ^ k) (sym more) (omega (arith, pow_six (length (digits most (n / 6)))))) (cases_eq n 0)

six_digits : (k : ℕ) → k ≤ 6 → 6 ^ k < 2 ^ 16
six_digits zero l = omega arith
six_digits (suc zero) l = omega arith
six_digits (suc (suc zero)) l = omega arith
six_digits (suc (suc (suc zero))) l = omega arith
six_digits (suc (suc (suc (suc zero)))) l = omega arith
six_digits (suc (suc (suc (suc (suc zero))))) l = omega arith
six_digits (suc (suc (suc (suc (suc (suc zero)))))) l = omega arith
six_digits (suc (suc (suc (suc (suc (suc (suc k))))))) l = absurd (omega arith)

order_fits : (word : ℕ) → length (digits 7 (word / 2 ^ 48)) ≤ 6 → word < 2 ^ 64
order_fits word l = let a = few_digits 7 (word / 2 ^ 48) (omega arith) in let b = six_digits (length (digits 7 (word / 2 ^ 48))) l in
    let c : word / 2 ^ 48 < 2 ^ 16 = omega (arith, a, b) in omega (arith, c)

pub sparse_fits : (word : ℕ) → IsSparse word → word < 2 ^ 64
unfolding slots_of
sparse_fits word h = order_fits word h.most
