use Rattle.table_reader.proofs.Beginning.{whole_scan}
use Rattle.table_reader.proofs.laws.law_whole_scan.Goals as goal

pub returns : goal.returns
returns c = whole_scan
