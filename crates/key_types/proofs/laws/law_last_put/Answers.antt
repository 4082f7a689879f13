use Rattle.key_types.proofs.Puts.{gets_last}
use Rattle.key_types.proofs.laws.law_last_put.Goals as goal

pub returns : goal.returns
returns c = gets_last
