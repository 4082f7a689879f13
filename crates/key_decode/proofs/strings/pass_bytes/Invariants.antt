use Rattle.std.proofs.Common.{◌≡◌, length}
use Rattle.key_decode.specs.Texts.{at}
use Rattle.key_decode.specs.Reading.{seen, text_at}
use Rattle.key_decode.proofs.Plain.{left_of}
use Rattle.key_decode.proofs.strings.pass_bytes.Given as goal

abbrev pub invariant-bytes : goal.invariant-bytes
invariant-bytes l = left_of (at l.place (seen l.complemented l.rest)) ≡ left_of (text_at (seen l.complemented l.bytes))

abbrev pub decreases-bytes : goal.decreases-bytes
decreases-bytes l = length l.rest
