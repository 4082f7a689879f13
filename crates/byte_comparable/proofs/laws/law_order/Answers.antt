use Rattle.byte_comparable.proofs.Kept.{keys_kept}
use Rattle.byte_comparable.proofs.laws.law_order.Goals as goal

pub returns : goal.returns
returns c = keys_kept
