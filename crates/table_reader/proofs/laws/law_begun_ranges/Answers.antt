use Rattle.table_reader.proofs.Ranged.{ranges_begin}
use Rattle.table_reader.proofs.laws.law_begun_ranges.Goals as goal

pub returns : goal.returns
returns c = ranges_begin
