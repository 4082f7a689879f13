use Rattle.key_types.specs.Columns.{columns_of}
use Rattle.script_text.proofs.Told.{out_of_range, left_within}
use Rattle.script_text.proofs.said.read_line.Goals as goal

pub overflow_sub-result : goal.overflow_sub-result
overflow_sub-result c =
    let read = rw c.in-Ok-default-Some.field-0-1-is at c.in-Ok-default-Some.ensures in
    (out_of_range (columns_of c.args.schema.now) c.args.text.now read.0 c.in-Ok-default-Some.left read.1).0

pub overflow_sub-result-in-Err-At : goal.overflow_sub-result-in-Err-At
overflow_sub-result-in-Err-At c = left_within (columns_of c.args.schema.now) c.args.text.now c.in-Err-At.left (rw c.in-Err-At.field-0-is at c.in-Err-At.ensures)
