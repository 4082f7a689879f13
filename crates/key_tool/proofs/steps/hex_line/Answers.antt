use Rattle.std.proofs.Common.{arith, rules}
use Rattle.key_types.proofs.Octets.{are_bytes}
use Rattle.key_text.proofs.Hexadecimal.{encoded}
use Rattle.key_tool.proofs.steps.hex_line.Goals as goal

pub returns : goal.returns
returns c =
    let same = encoded c.args.bytes.now (are_bytes c.args.bytes.now (λ i. omega (arith, c.type_inv.bytes i))) in
    rw (← same) (search rules)
