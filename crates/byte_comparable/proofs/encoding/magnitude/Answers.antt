use Rattle.std.proofs.Common.{arith, ◌∙◌, ◌-◌, ◌≡◌, sym, ap, w64, to_z, of_z}
use Rattle.std.proofs.lemmas.Int.{ints}
use Rattle.std.specs.Prelude.{pos, ◌<ℤ◌}
use lib.IntN.{nat_abs}
use Rattle.byte_comparable.specs.Encoding.{complement, long_bytes}
use Rattle.byte_comparable.proofs.Signs.{big_negative}
use Rattle.byte_comparable.proofs.encoding.magnitude.Goals as goal

pub returns-else-n-ge0-clause-form : goal.returns-else-n-ge0-clause-form
returns-else-n-ge0-clause-form c =
    let below : c.args.n <ℤ pos 0 = omega (arith, ints) in
    let same : to_z w64 (of_z w64 c.args.n) ≡ c.args.n = omega (arith, ints) in
    big_negative c.args.n below ∙ ap (λ m. complement (long_bytes (m - 1))) (sym (c.unsigned_abs-size.ensures.value ∙ ap nat_abs same))
