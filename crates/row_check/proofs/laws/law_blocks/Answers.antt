use Rattle.row_check.proofs.BlocksJudged.{blocks_are_judged}
use Rattle.row_check.proofs.laws.law_blocks.Goals as goal

pub returns : goal.returns
returns c = blocks_are_judged
