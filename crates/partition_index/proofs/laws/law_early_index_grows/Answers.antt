use Rattle.partition_index.proofs.Settled.{early_index_grows}
use Rattle.partition_index.proofs.laws.law_early_index_grows.Goals as goal

pub returns : goal.returns
returns c = early_index_grows
