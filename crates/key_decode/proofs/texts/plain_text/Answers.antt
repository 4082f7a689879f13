use Rattle.std.proofs.Common.{sym, ◌∙◌}
use Rattle.key_decode.proofs.Plain.{plain_reads}
use Rattle.key_decode.proofs.texts.plain_text.Goals as goal

pub returns-in-Ok-End-default : goal.returns-in-Ok-End-default
returns-in-Ok-End-default c =
    plain_reads c.args.bytes.now c.in-Ok-End-default.rest.now c.in_ok-end.end (sym c.first_zero.ensures.first ∙ c.in_ok-end.was) (rw c.in-Ok-End-default.field-0-0-is at c.in-Ok-End-default.ensures.ok)
