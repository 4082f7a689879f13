use Rattle.std.proofs.Common.{Err, ap}
use Rattle.data_file.proofs.Found.{damaged_row, row_goes_on}
use Rattle.data_file.proofs.reading.early.Goals as goal
use Rattle.key_types.specs.Columns.{columns_of}

pub returns-in-Ok-clause-told : goal.returns-in-Ok-clause-told
returns-in-Ok-clause-told c = λ rest. row_goes_on (columns_of c.args.schema.now) c.args.bytes.now rest c.args.at c.in-Ok.row c.in-Ok.ensures.row

pub returns-in-Err-Bad-clause-told : goal.returns-in-Err-Bad-clause-told
returns-in-Err-Bad-clause-told c =
    λ rest. damaged_row (columns_of c.args.schema.now) _ c.args.at c.damaged.result c.damaged.ensures (c.in-Err-Bad.ensures.bad (ap Err c.in-Err-Bad.field-0-is) rest)
