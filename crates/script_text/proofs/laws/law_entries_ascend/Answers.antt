use Rattle.script_text.proofs.Ascending.{entries_ascend}
use Rattle.script_text.proofs.laws.law_entries_ascend.Goals as goal

pub returns : goal.returns
returns c = entries_ascend
