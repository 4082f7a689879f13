use Rattle.std.proofs.Common.{arith}
use Rattle.key_types.specs.Kinds.{kinds_of, values_of}
use Rattle.key_text.proofs.Utf.{bytes_by_index}
use Rattle.key_text.proofs.Whole.{list_read, list_outside, list_refused, list_left}
use Rattle.key_text.proofs.reading.read_list.Goals as goal

pub overflow_sub-result : goal.overflow_sub-result
overflow_sub-result c =
    (list_outside (kinds_of c.args.kinds.now) c.args.text.now (values_of c.in-Ok-default-Some.field-0-0) c.in-Ok-default-Some.left (rw c.in-Ok-default-Some.field-0-1-is at c.in-Ok-default-Some.ensures)).0

pub overflow_sub-result-in-Err-At : goal.overflow_sub-result-in-Err-At
overflow_sub-result-in-Err-At c = list_left (kinds_of c.args.kinds.now) c.args.text.now c.in-Err-At.left (rw c.in-Err-At.field-0-is at c.in-Err-At.ensures)

pub returns-in-Ok-default-None : goal.returns-in-Ok-default-None
returns-in-Ok-default-None c =
    list_read (kinds_of c.args.kinds.now) c.args.text.now (values_of c.in-Ok-default-None.values) (rw c.in-Ok-default-None.field-0-1-is at c.in-Ok-default-None.ensures) c.requires
    (bytes_by_index c.args.text.now (λ i. omega (arith, c.type_inv.text i)))

pub returns-in-Ok-default-Some : goal.returns-in-Ok-default-Some
returns-in-Ok-default-Some c =
    (list_outside (kinds_of c.args.kinds.now) c.args.text.now (values_of c.in-Ok-default-Some.field-0-0) c.in-Ok-default-Some.left (rw c.in-Ok-default-Some.field-0-1-is at c.in-Ok-default-Some.ensures)).1

pub returns-in-Err-At : goal.returns-in-Err-At
returns-in-Err-At c = list_refused (kinds_of c.args.kinds.now) c.args.text.now c.in-Err-At.left (rw c.in-Err-At.field-0-is at c.in-Err-At.ensures)
