use Rattle.bti_nodes.specs.Spelling.{outline_of}
use Rattle.bti_nodes.proofs.Choice.{is_choice}
use Rattle.bti_nodes.proofs.laws.law_choice.Goals as goal

pub returns : goal.returns
returns c p some near = is_choice (outline_of p) some near
