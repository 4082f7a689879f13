use Rattle.row_index.proofs.Separators.{entries_are_row_index}
use Rattle.row_index.proofs.laws.law_entries_are_row_index.Goals as goal

pub returns : goal.returns
returns c = entries_are_row_index
