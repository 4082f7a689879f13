-- Room for a number with one byte more.
use Rattle.std.proofs.Common.{◌≡◌, ℕ, zero, suc, ◌+◌, ◌*◌, ◌^◌, ◌<◌, ◌≤◌, List, ◌∷◌, arith, sym, ◌∙◌, ap}
use Rattle.std.proofs.lemmas.Nat.{mul-le}
use Rattle.key_decode.specs.Reading.{unsigned_at}
use Rattle.byte_comparable.proofs.Numbers.{positive}

spread : (n p : ℕ) → ((n + 1) * 256) * p ≡ (n + 1) * (256 * p)
spread n p = grind arith

pub record Room (n c k b : ℕ) : Type 0 where
  pub fits : n * 256 + b < 2 ^ 64
  pub next : (n * 256 + b + 1) * 256 ^ k ≤ 2 ^ 64
  pub within : (n * 256 + b + 1) * 256 ^ k ≤ (n + 1) * 256 ^ c

pub room : (n c k b : ℕ) → c ≡ suc k → (n + 1) * 256 ^ c ≤ 2 ^ 64 → b < 256 → Room n c k b
room n c k b e h w =
    let power : 256 ^ c ≡ 256 * 256 ^ k = ap (λ x. 256 ^ x) e ∙ omega arith in
    let whole : (n + 1) * 256 ^ c ≡ ((n + 1) * 256) * 256 ^ k = ap (λ x. (n + 1) * x) power ∙ sym (spread n (256 ^ k)) in
    let less : (n * 256 + b + 1) * 256 ^ k ≤ ((n + 1) * 256) * 256 ^ k = mul-le (n * 256 + b + 1) (256 ^ k) ((n + 1) * 256) (256 ^ k) (omega arith) (omega arith) in
    let one : ((n + 1) * 256) * 1 ≤ ((n + 1) * 256) * 256 ^ k = mul-le ((n + 1) * 256) 1 ((n + 1) * 256) (256 ^ k) (omega arith) (let p = positive k in omega arith) in
    record { fits = omega arith; next = omega arith; within = omega arith }

pub number_next : (c k n b : ℕ) (all rest : List ℕ) → c ≡ suc k → all ≡ b ∷ rest → unsigned_at k (n * 256 + b) rest ≡ unsigned_at c n all
number_next c k n b all rest e l = sym (ap (λ x. unsigned_at x n all) e ∙ ap (unsigned_at (suc k) n) l)

pub small_room : (x k : ℕ) → x < 2 ^ 15 → k ≤ 6 → (x + 1) * 256 ^ k ≤ 2 ^ 64
small_room x zero h l = omega arith
small_room x (suc zero) h l = omega arith
small_room x (suc (suc zero)) h l = omega arith
small_room x (suc (suc (suc zero))) h l = omega arith
small_room x (suc (suc (suc (suc zero)))) h l = omega arith
small_room x (suc (suc (suc (suc (suc zero))))) h l = omega arith
small_room x (suc (suc (suc (suc (suc (suc zero)))))) h l = omega arith
small_room x (suc (suc (suc (suc (suc (suc (suc k))))))) h l = absurd (omega arith)
