use Rattle.scan_tool.proofs.Ranged.{prints_map}
use Rattle.scan_tool.proofs.laws.law_scan_lines.Goals as goal

pub returns : goal.returns
returns c = prints_map
