use Rattle.data_walk.proofs.Finding.{ahead_is_found, end_is_found}
use Rattle.data_walk.proofs.laws.law_next.Goals as goal

pub returns-clause-found : goal.returns-clause-found
returns-clause-found c = ahead_is_found

pub returns-clause-ends : goal.returns-clause-ends
returns-clause-ends c = end_is_found
