use Rattle.script_text.proofs.Meaning.{meaning}
use Rattle.script_text.proofs.laws.law_script_meaning.Goals as goal

pub returns : goal.returns
returns c = meaning
