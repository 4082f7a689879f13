use Rattle.table_reader.proofs.Sounds.{gets_bounded}
use Rattle.table_reader.proofs.laws.law_get_reads.Goals as goal

pub returns : goal.returns
returns c = gets_bounded
