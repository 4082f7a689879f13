use Rattle.byte_comparable.proofs.Kept.{weakly}
use Rattle.byte_comparable.proofs.laws.law_weakly_prefix_free.Goals as goal

pub returns : goal.returns
returns c = weakly
