use Rattle.bounds_text.proofs.Standing.{one_text}
use Rattle.bounds_text.proofs.law_bounds_text.Goals as goal

pub returns : goal.returns
returns c = one_text
