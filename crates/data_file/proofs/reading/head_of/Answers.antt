use Rattle.std.proofs.Common.{rules}
use Rattle.data_file.proofs.Found.{damaged_head}
use Rattle.data_file.proofs.reading.head_of.Goals as goal
use Rattle.key_types.specs.Columns.{columns_of}

pub returns-in_default-clause-told : goal.returns-in_default-clause-told
returns-in_default-clause-told c =
    damaged_head (columns_of c.args.schema.now) c.args.bytes.now c.args.at c.damaged.result c.damaged.ensures (c.head_in.ensures.none (search rules))
