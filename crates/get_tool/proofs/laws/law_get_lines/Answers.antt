use Rattle.get_tool.proofs.Shown.{shows_map}
use Rattle.get_tool.proofs.laws.law_get_lines.Goals as goal

pub returns : goal.returns
returns c = shows_map
