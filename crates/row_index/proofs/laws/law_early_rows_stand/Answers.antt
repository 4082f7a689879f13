use Rattle.row_index.proofs.Growing.{early_rows_stand}
use Rattle.row_index.proofs.laws.law_early_rows_stand.Goals as goal

pub returns : goal.returns
returns c = early_rows_stand
