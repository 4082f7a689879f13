use Rattle.data_walk.proofs.Finding.{all_are_found, listed_are_ahead}
use Rattle.data_walk.proofs.laws.law_all.Goals as goal

pub returns-clause-start : goal.returns-clause-start
returns-clause-start c = listed_are_ahead

pub returns-clause-steps : goal.returns-clause-steps
returns-clause-steps c = all_are_found
