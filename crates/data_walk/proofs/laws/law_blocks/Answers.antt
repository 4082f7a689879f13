use Rattle.data_walk.proofs.Finding.{heads_open}
use Rattle.data_walk.proofs.Meeting.{blocks_are_met}
use Rattle.data_walk.proofs.laws.law_blocks.Goals as goal

pub returns-clause-head : goal.returns-clause-head
returns-clause-head c = heads_open

pub returns-clause-blocks : goal.returns-clause-blocks
returns-clause-blocks c = blocks_are_met
