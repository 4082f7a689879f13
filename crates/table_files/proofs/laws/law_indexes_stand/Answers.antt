use Rattle.table_files.proofs.Indexed.{indexes_stand}
use Rattle.table_files.proofs.laws.law_indexes_stand.Goals as goal

pub returns : goal.returns
returns c = indexes_stand
