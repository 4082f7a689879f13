use Rattle.table_files.proofs.WalkLemmas.{stands_walk}
use Rattle.table_files.proofs.laws.law_stands_walk.Goals as goal

pub returns : goal.returns
returns c = stands_walk
