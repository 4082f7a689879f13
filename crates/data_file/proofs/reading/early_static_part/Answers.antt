use Rattle.std.proofs.Common.{Err, ap}
use Rattle.data_file.proofs.Found.{damaged_static_part, static_part_goes_on}
use Rattle.data_file.proofs.reading.early_static_part.Goals as goal
use Rattle.key_types.specs.Columns.{columns_of}

pub returns-in-Ok-clause-told : goal.returns-in-Ok-clause-told
returns-in-Ok-clause-told c = λ rest. static_part_goes_on (columns_of c.args.schema.now) c.args.bytes.now rest c.args.at c.in-Ok.static_part c.in-Ok.ensures.part

pub returns-in-Err-Bad-clause-told : goal.returns-in-Err-Bad-clause-told
returns-in-Err-Bad-clause-told c =
    λ rest. damaged_static_part (columns_of c.args.schema.now) _ c.args.at c.damaged.result c.damaged.ensures (c.in-Err-Bad.ensures.bad (ap Err c.in-Err-Bad.field-0-is) rest)
