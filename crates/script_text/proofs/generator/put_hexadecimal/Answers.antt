use Rattle.std.proofs.Common.{◌≡◌, ◌++◌, ◌∙◌, sym, ap, arith}
use Rattle.script_text.specs.Generator.{hexadecimal}
use Rattle.script_text.proofs.Digits.{no_digit}
use Rattle.script_text.proofs.generator.put_hexadecimal.Goals as goal

pub returns : goal.returns
returns c =
    let none : c.digits.left ≡ 0 = omega (arith, c.digits-test.false) in
    sym (no_digit c.digits.out c.args.number) ∙ ap (λ k. c.digits.out ++ hexadecimal k c.args.number) (sym none) ∙ c.digits.invariant.0
