use Rattle.byte_order.proofs.Sizes.{unique_size_is}
use Rattle.byte_order.proofs.laws.law_unique_size.Goals as goal

pub returns : goal.returns
returns c = unique_size_is
