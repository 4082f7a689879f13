use Rattle.std.proofs.Common.{◌≡◌, Err, ap}
use Rattle.data_file.specs.declared.parse.ParseRow.TheVariants.{Bad, Short}
use Rattle.data_file.proofs.parse.parse_row.Goals as goal

pub returns-in-Err-clause-short : goal.returns-in-Err-clause-short
returns-in-Err-clause-short c = λ short. let same : c.in-Err.e ≡ Short = cc in c.in-Err.ensures.short (ap Err same)

pub returns-in-Err-clause-bad : goal.returns-in-Err-clause-bad
returns-in-Err-clause-bad c = λ bad. let same : c.in-Err.e ≡ Bad = cc in c.in-Err.ensures.bad (ap Err same)
