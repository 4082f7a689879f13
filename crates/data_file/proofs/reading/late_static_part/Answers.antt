use Rattle.std.proofs.Common.{Err, ap}
use Rattle.data_file.proofs.Found.{bad_static_part_alone, damaged_static_part}
use Rattle.data_file.proofs.reading.late_static_part.Goals as goal
use Rattle.key_types.specs.Columns.{columns_of}

pub returns-in-Err-Short-clause-told : goal.returns-in-Err-Short-clause-told
returns-in-Err-Short-clause-told c =
    damaged_static_part (columns_of c.args.schema.now) c.args.bytes.now c.args.at c.damaged.result c.damaged.ensures
    (c.in-Err-Short.ensures.short (ap Err c.in-Err-Short.field-0-is)).0

pub returns-in-Err-Bad-clause-told : goal.returns-in-Err-Bad-clause-told
returns-in-Err-Bad-clause-told c =
    damaged_static_part (columns_of c.args.schema.now) c.args.bytes.now c.args.at c.damaged-in-Err-Bad.result c.damaged-in-Err-Bad.ensures
    (bad_static_part_alone (columns_of c.args.schema.now) c.args.bytes.now (c.in-Err-Bad.ensures.bad (ap Err c.in-Err-Bad.field-0-is)))
