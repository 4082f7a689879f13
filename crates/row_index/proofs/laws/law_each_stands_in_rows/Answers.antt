use Rattle.row_index.proofs.Rows.{each_stands_in_rows}
use Rattle.row_index.proofs.laws.law_each_stands_in_rows.Goals as goal

pub returns : goal.returns
returns c = each_stands_in_rows
