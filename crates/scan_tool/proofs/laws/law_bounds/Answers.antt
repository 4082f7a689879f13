use Rattle.scan_tool.proofs.Named.{lower_bounds, upper_bounds}
use Rattle.scan_tool.proofs.laws.law_bounds.Goals as goal

pub returns-clause-lower : goal.returns-clause-lower
returns-clause-lower c = lower_bounds

pub returns-clause-upper : goal.returns-clause-upper
returns-clause-upper c = upper_bounds
