use Rattle.partition_index.proofs.Index.{entries_are_index}
use Rattle.partition_index.proofs.laws.law_entries_are_index.Goals as goal

pub returns : goal.returns
returns c = entries_are_index
