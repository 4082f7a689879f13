use Rattle.bti_reader.proofs.Whole.{walk_is_whole}
use Rattle.bti_reader.proofs.laws.law_walk.Goals as goal

pub returns : goal.returns
returns c = walk_is_whole
