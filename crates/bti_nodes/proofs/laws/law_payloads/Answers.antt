use Rattle.bti_nodes.proofs.Numbers.{numbers_read}
use Rattle.bti_nodes.proofs.laws.law_payloads.Goals as goal

pub returns : goal.returns
returns c = numbers_read
