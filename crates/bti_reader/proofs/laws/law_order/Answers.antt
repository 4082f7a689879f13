use Rattle.bti_reader.proofs.Ascending.{in_order}
use Rattle.bti_reader.proofs.laws.law_order.Goals as goal

pub returns : goal.returns
returns c = in_order
