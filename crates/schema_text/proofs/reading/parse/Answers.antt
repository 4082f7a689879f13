use Rattle.std.proofs.Common.{◌+◌, length, arith}
use Rattle.schema_text.specs.Parts.{columns_of_parts}
use Rattle.schema_text.proofs.Parsed.{found, no_text, place, left_within}
use Rattle.schema_text.proofs.Unique.{parsed}
use Rattle.schema_text.proofs.reading.parse.Goals as goal

pub bounded-requires : goal.bounded-requires
bounded-requires c = let is = found (length c.args.text.now + 1) c.args.text.now (columns_of_parts c.in-Ok.parts) c.in-Ok.ensures in (is.some, is.partition, is.clustering)

pub overflow_sub-result : goal.overflow_sub-result
overflow_sub-result c = left_within (length c.args.text.now + 1) c.args.text.now c.in-Err-At.left (omega arith) (rw c.in-Err-At.field-0-is at c.in-Err-At.ensures)

pub returns-in-Ok : goal.returns-in-Ok
returns-in-Ok c =
    let s = columns_of_parts c.in-Ok.parts in
    parsed c.args.text.now s c.bounded.result (found (length c.args.text.now + 1) c.args.text.now s c.in-Ok.ensures) c.bounded.ensures

pub returns-in-Err-At : goal.returns-in-Err-At
returns-in-Err-At c =
    let text = c.args.text.now in
    let left = c.in-Err-At.left in
    let e = rw c.in-Err-At.field-0-is at c.in-Err-At.ensures in
    (no_text (length text + 1) text left (omega arith) e, place (length text + 1) text left (omega arith) e)
