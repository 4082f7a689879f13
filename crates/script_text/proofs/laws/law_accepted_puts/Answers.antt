use Rattle.script_text.proofs.Accepted.{accepted_script}
use Rattle.script_text.proofs.laws.law_accepted_puts.Goals as goal

pub returns : goal.returns
returns c = accepted_script
