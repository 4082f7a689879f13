use Rattle.load_work.proofs.Whole.{new_have_learnt}
use Rattle.load_work.proofs.law_new_have_learnt.Goals as goal

pub returns : goal.returns
returns c = new_have_learnt
