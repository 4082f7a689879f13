use Rattle.byte_order.proofs.Among.{unique_among_all}
use Rattle.byte_order.proofs.laws.law_unique_among_all.Goals as goal

pub returns : goal.returns
returns c = unique_among_all
