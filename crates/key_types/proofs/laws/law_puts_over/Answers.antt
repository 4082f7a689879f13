use Rattle.key_types.proofs.Puts.{is_over}
use Rattle.key_types.proofs.laws.law_puts_over.Goals as goal

pub returns : goal.returns
returns c = is_over
