use Rattle.std.proofs.Common.{rules}
use Rattle.data_file.proofs.Frames.{no_head_else}
use Rattle.data_file.proofs.parse.head_in.Goals as goal
use Rattle.key_types.specs.Columns.{columns_of}

pub returns-then-not-is_partition_string-clause-none : goal.returns-then-not-is_partition_string-clause-none
returns-then-not-is_partition_string-clause-none c =
    λ none. no_head_else (columns_of c.args.schema.now) c.args.bytes.now c.in_ok-key.key.now c.in_ok-key.field-0-1.now c.in_ok-key.ensures.some.1 (search rules)
