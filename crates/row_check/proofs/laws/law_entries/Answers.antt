use Rattle.row_check.proofs.EntriesJudged.{entries_are_judged}
use Rattle.row_check.proofs.laws.law_entries.Goals as goal

pub returns : goal.returns
returns c = entries_are_judged
