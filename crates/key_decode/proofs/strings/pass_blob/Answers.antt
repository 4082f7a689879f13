use Rattle.key_decode.proofs.strings.pass_blob.Goals as goal

pub returns-in-Some : goal.returns-in-Some
returns-in-Some c = (c.in-Some.field-0-0.now, tt, rw c.if-complemented.false c.in-Some.ensures)
