use Rattle.row_index.proofs.Growing.{early_rows_grow}
use Rattle.row_index.proofs.laws.law_early_rows_grow.Goals as goal

pub returns : goal.returns
returns c = early_rows_grow
