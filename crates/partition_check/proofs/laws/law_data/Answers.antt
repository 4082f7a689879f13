use Rattle.partition_check.proofs.Listed.{found_is_listed, held_is_found}
use Rattle.partition_check.proofs.laws.law_data.Goals as goal

pub returns-clause-found : goal.returns-clause-found
returns-clause-found c = found_is_listed

pub returns-clause-held : goal.returns-clause-held
returns-clause-held c = held_is_found
