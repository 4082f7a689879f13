use Rattle.byte_comparable.proofs.Kept.{whole}
use Rattle.byte_comparable.proofs.laws.law_prefix_free.Goals as goal

pub returns : goal.returns
returns c = whole
