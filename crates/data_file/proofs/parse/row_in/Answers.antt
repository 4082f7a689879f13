use Rattle.std.proofs.Common.{◌≡◌, Err, ap, rules}
use Rattle.data_file.specs.declared.parse.ParseRow.TheVariants.{Bad, Short}
use Rattle.data_file.proofs.Cuts.{cut_none}
use Rattle.data_file.proofs.Frames.{no_row, no_row_else}
use Rattle.data_file.proofs.parse.row_in.Goals as goal
use Rattle.key_types.specs.Columns.{columns_of}

pub returns-in-Err-clause-short : goal.returns-in-Err-clause-short
returns-in-Err-clause-short c =
    λ short.
    let same : c.in-Err.e ≡ Short = cc in
    cut_none (columns_of c.args.schema.now) c.args.bytes.now (c.in-Err.ensures.short.0 (ap Err same))

pub returns-in-Err-clause-bad : goal.returns-in-Err-clause-bad
returns-in-Err-clause-bad c =
    λ bad more. let same : c.in-Err.e ≡ Bad = cc in no_row (columns_of c.args.schema.now) _ (c.in-Err.ensures.bad (ap Err same) more)

pub returns-then-not-is_row-clause-bad : goal.returns-then-not-is_row-clause-bad
returns-then-not-is_row-clause-bad c =
    λ bad. no_row_else (columns_of c.args.schema.now) c.args.bytes.now c.in-Some.clustering.now c.in-Some.value.now (rw c.in-Some.is at c.in-Ok.ensures.row) (search rules)
