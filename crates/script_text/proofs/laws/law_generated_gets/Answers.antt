use Rattle.script_text.proofs.Generated.{generates}
use Rattle.script_text.proofs.laws.law_generated_gets.Goals as goal

pub returns : goal.returns
returns c = generates
