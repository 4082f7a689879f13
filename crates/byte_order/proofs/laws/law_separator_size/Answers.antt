use Rattle.byte_order.proofs.Sizes.{separator_size_is}
use Rattle.byte_order.proofs.laws.law_separator_size.Goals as goal

pub returns : goal.returns
returns c = separator_size_is
