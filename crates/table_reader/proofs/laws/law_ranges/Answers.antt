use Rattle.table_reader.proofs.Ranged.{ranges_have}
use Rattle.table_reader.proofs.laws.law_ranges.Goals as goal

pub returns : goal.returns
returns c = ranges_have
