use Rattle.std.proofs.Common.{◌≡◌, ◌++◌, ◌∙◌, sym, ap, w64, to_z, of_z, arith, List, ℕ, Bool, true, length, take, drop}
use Rattle.std.proofs.lemmas.Int.{ints}
use Rattle.std.specs.Prelude.{ℤ, if◌then◌else◌}
use Rattle.byte_comparable.specs.Encoding.{complement, long_bytes, big_bytes}
use Rattle.byte_comparable.proofs.Signs.{tail_turned}
use Rattle.byte_comparable.proofs.encoding.put_big.Goals as goal

turned : (old put new spelled : List ℕ) (at : ℕ) (n : ℤ) (negative : Bool) (other : List ℕ) → put ≡ old ++ spelled → at ≡ length old → new ≡ take at put ++ complement (drop at put)
    → big_bytes n ≡ (if negative then complement spelled else other) → negative ≡ true → new ≡ old ++ big_bytes n
turned old put new spelled at n negative other p l f form t =
    f ∙ ap (λ k. take k put ++ complement (drop k put)) l ∙ tail_turned old spelled put p ∙ ap (λ b. old ++ b) (sym (form ∙ ap (λ b. if b then complement spelled else other) t))

pub returns-then-negative-clause-ok : goal.returns-then-negative-clause-ok
returns-then-negative-clause-ok c =
    let same : to_z w64 (of_z w64 c.args.n) ≡ c.args.n = omega (arith, ints) in
    let m = c.magnitude-negative in
    turned c.args.out.now c.put_long.new.out c.complement_from.new.self (long_bytes m.result.1) c.len-at.result c.args.n m.result.0 (long_bytes m.result.1)
    c.in_ok-put_long.ensures.ok c.len-at.ensures c.complement_from.ensures (ap big_bytes (sym same) ∙ m.ensures.form) c.if-negative.true
