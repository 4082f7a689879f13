use Rattle.std.proofs.Common.{◌≡◌, Err, ap}
use Rattle.data_file.specs.declared.parse.ParseRow.TheVariants.{Bad}
use Rattle.data_file.proofs.static_part.parse_static_part.Goals as goal

pub returns-in-Err-clause-bad : goal.returns-in-Err-clause-bad
returns-in-Err-clause-bad c = λ bad. let same : c.in-Err.e ≡ Bad = cc in c.in-Err.ensures.bad (ap Err same)
