use Rattle.std.proofs.Common.{◌≡◌, Err, Some, ap, rules}
use Rattle.data_file.specs.Parsing.{IsStaticPartFrame}
use Rattle.key_types.specs.Columns.{columns_of}
use Rattle.data_file.specs.declared.parse.ParseRow.TheVariants.{Bad, Short}
use Rattle.data_file.proofs.Cuts.{cut_static_none}
use Rattle.data_file.proofs.Frames.{no_static_part, no_static_part_else}
use Rattle.data_file.proofs.static_part.static_part_in.Goals as goal

pub returns-in-Err-clause-short : goal.returns-in-Err-clause-short
returns-in-Err-clause-short c =
    λ short.
    let same : c.in-Err.e ≡ Short = cc in
    cut_static_none (columns_of c.args.schema.now) c.args.bytes.now (c.in-Err.ensures.short.0 (ap Err same))

pub returns-in-Err-clause-bad : goal.returns-in-Err-clause-bad
returns-in-Err-clause-bad c =
    λ bad more. let same : c.in-Err.e ≡ Bad = cc in no_static_part (columns_of c.args.schema.now) _ (c.in-Err.ensures.bad (ap Err same) more)

pub returns-in-Some-Some-clause-bad : goal.returns-in-Some-Some-clause-bad
returns-in-Some-Some-clause-bad c =
    λ bad.
    let frame : IsStaticPartFrame c.args.bytes.now (Some c.in-Some-Some.value.now) = search rules in
    no_static_part_else (columns_of c.args.schema.now) c.args.bytes.now c.in-Some-Some.value.now c.in-Some-Some.kind (search rules) frame (search rules)
