use Rattle.row_index.proofs.Rows.{rows_are_short}
use Rattle.row_index.proofs.laws.law_rows_are_short.Goals as goal

pub returns : goal.returns
returns c = rows_are_short
