use Rattle.std.proofs.Common.{◌≡◌, length}
use Rattle.key_decode.specs.Texts.{at}
use Rattle.grammar.specs.Reading.{with_front}
use Rattle.key_decode.specs.Reading.{seen, text_at}
use Rattle.key_decode.proofs.texts.read_bytewise.Given as goal

abbrev pub invariant-bytes : goal.invariant-bytes
invariant-bytes l = with_front l.out (at l.place (seen l.complemented l.rest)) ≡ text_at (seen l.complemented l.bytes)

abbrev pub decreases-bytes : goal.decreases-bytes
decreases-bytes l = length l.rest
