use Rattle.table_reader.proofs.Footers.{footers_stand}
use Rattle.table_reader.proofs.laws.law_footers.Goals as goal

pub returns : goal.returns
returns c = footers_stand
