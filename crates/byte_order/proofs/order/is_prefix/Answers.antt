use Rattle.std.proofs.Common.{◌∙◌, sym}
use Rattle.byte_order.proofs.Prefixes.{found, all}
use Rattle.byte_order.proofs.order.is_prefix.Goals as goal

pub returns : goal.returns
returns c =
    (λ is. found c.args.a.now c.args.b.now (sym c.starts_with.ensures.value ∙ is), λ p. c.starts_with.ensures.value ∙ all c.args.a.now c.args.b.now p)
