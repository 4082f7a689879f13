use Rattle.std.proofs.Common.{None, ◌∙◌, arith}
use Rattle.script_text.specs.Reading.{set_at}
use Rattle.script_text.proofs.Spelled.{static_read}
use Rattle.script_text.proofs.commands.read_static.Goals as goal

pub returns : goal.returns
returns c = λ columns mark.
    let set = c.in_ok-rest-2.ensures mark in (
      (None, set.0),
      static_read columns set_at c.args.kind mark mark c.args.bytes.now c.in_ok-rest.rest.now c.in_ok-rest-2.rest.now c.in_ok-rest.field-0-0 set.0 c.in_ok-rest.ensures set.1,
      (set.2.0, set.2.1, set.2.2, c.len-end.ensures ∙ omega arith),
    )
