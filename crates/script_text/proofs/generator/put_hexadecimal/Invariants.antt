use Rattle.std.proofs.Common.{◌≡◌, ◌≤◌, ◌++◌}
use Rattle.script_text.specs.Generator.{hexadecimal}
use Rattle.script_text.proofs.generator.put_hexadecimal.Given as goal

abbrev pub invariant-digits : goal.invariant-digits
invariant-digits l = (l.out ++ hexadecimal l.left l.number ≡ l.initial.out ++ hexadecimal 16 l.number) × (l.left ≤ 16)

abbrev pub decreases-digits : goal.decreases-digits
decreases-digits l = l.left
