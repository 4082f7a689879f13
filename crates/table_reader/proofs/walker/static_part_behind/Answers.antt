use Rattle.std.proofs.Common.{◌∙◌, not, drop, ap}
use Rattle.key_types.specs.Columns.{columns_of}
use Rattle.table_reader.proofs.ScanSteps.{no_part, none_behind}
use Rattle.table_reader.proofs.walker.static_part_behind.Goals as goal

pub returns-then-is_none-clause-some : goal.returns-then-is_none-clause-some
returns-then-is_none-clause-some c = none_behind (columns_of c.args.schema.now) (drop c.args.head c.args.bytes.now) (c.is_none.ensures ∙ ap not c.if-is_none.true)

pub returns-in-Err-clause-none : goal.returns-in-Err-clause-none
returns-in-Err-clause-none c =
    λ none.
    no_part (columns_of c.args.schema.now) (drop c.args.head c.args.bytes.now) c.split_at.result.1.now c.static_part_in.result c.in-Err.field-0 c.split_at.ensures.back
    (c.is_none.ensures ∙ ap not c.if-is_none.false) c.in-Err.is c.static_part_in.ensures.short c.static_part_in.ensures.bad c.static_part_in.ensures.memory
