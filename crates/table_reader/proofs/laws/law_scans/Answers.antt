use Rattle.table_reader.proofs.Leaving.{scans_give_range}
use Rattle.table_reader.proofs.laws.law_scans.Goals as goal

pub returns : goal.returns
returns c = scans_give_range
