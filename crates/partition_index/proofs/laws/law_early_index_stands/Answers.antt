use Rattle.partition_index.proofs.Settled.{early_index_stands}
use Rattle.partition_index.proofs.laws.law_early_index_stands.Goals as goal

pub returns : goal.returns
returns c = early_index_stands
