use Rattle.table_reader.proofs.Whole.{gets_are}
use Rattle.table_reader.proofs.laws.law_gets.Goals as goal

pub returns : goal.returns
returns c = gets_are
