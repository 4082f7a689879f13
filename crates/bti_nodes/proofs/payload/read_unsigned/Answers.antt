use Rattle.std.proofs.Common.{ℕ, zero, suc, ◌<◌, ◌≤◌, ◌^◌, arith, length}
use Rattle.byteorder.specs.Numbers.{big_from-lt}
use Rattle.bti_nodes.proofs.payload.read_unsigned.Goals as goal

few : (n k : ℕ) → n < 256 ^ k → k ≤ 7 → n < 2 ^ 56
few n zero h l = omega arith
few n (suc zero) h l = omega arith
few n (suc (suc zero)) h l = omega arith
few n (suc (suc (suc zero))) h l = omega arith
few n (suc (suc (suc (suc zero)))) h l = omega arith
few n (suc (suc (suc (suc (suc zero))))) h l = omega arith
few n (suc (suc (suc (suc (suc (suc zero)))))) h l = omega arith
few n (suc (suc (suc (suc (suc (suc (suc zero))))))) h l = omega arith
few n (suc (suc (suc (suc (suc (suc (suc (suc k)))))))) h l = absurd (omega arith)

pub returns-clause-small : goal.returns-clause-small
returns-clause-small c =
    let xs = c.args.payload.now in
    few c.read_uint.result (length xs) (rw c.read_uint.ensures (big_from-lt 0 (length xs) xs (λ i. omega (arith, c.type_inv.payload i)))) c.requires.few
