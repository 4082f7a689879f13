use Rattle.std.proofs.Common.{rules}
use Rattle.key_text.proofs.Hexadecimal.{is_read, is_refused}
use Rattle.key_tool.proofs.steps.bytes_of.Goals as goal

pub returns-in-Ok : goal.returns-in-Ok
returns-in-Ok c = rw c.from_vec.ensures (is_read c.args.text.now c.in-Ok.bytes.items c.in-Ok.ensures.ok)

pub returns-in-Err : goal.returns-in-Err
returns-in-Err c = is_refused c.args.text.now c.in-Err.field-0 c.in-Err.ensures.err (search rules)
