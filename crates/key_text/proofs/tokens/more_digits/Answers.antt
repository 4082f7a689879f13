use Rattle.std.proofs.Common.{◌≡◌, ◌+◌, ◌-◌, ◌*◌, ◌^◌, min, ◌∙◌, sym, ap, arith}
use Rattle.std.proofs.lemmas.Bool.Decides.{nat_tests}
use Rattle.key_text.specs.Reading.{capped_all}
use Rattle.key_text.proofs.Capped.{capped_digits}
use Rattle.key_text.proofs.tokens.more_digits.Goals as goal

pub digits-preserved : goal.digits-preserved
digits-preserved c =
    let next = c.saturating_add-value.result in
    let whole = c.digits.value * 10 + c.in-Some.digit in
    let one : min next (2 ^ 64 - 1) ≡ min whole (2 ^ 64 - 1) = (let e = c.saturating_mul.ensures in let f = c.saturating_add-value.ensures in grind (arith, nat_tests)) in
    record {
      same = capped_digits next whole c.in-Some.after.now one ∙ ap capped_all (sym (c.in-Some.ensures.digit c.digits.value)) ∙ c.digits.invariant.same;
      bound = (let f = c.saturating_add-value.ensures in grind (arith, nat_tests));
    }
