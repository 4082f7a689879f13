use Rattle.std.proofs.Common.{◌≡◌, ◌+◌, ◌≤◌, length, take}
use Rattle.key_decode.specs.Texts.{at}
use Rattle.grammar.specs.Reading.{with_front}
use Rattle.key_decode.specs.Reading.{seen, text_at}
use Rattle.key_decode.proofs.strings.text_into.Given as goal

abbrev pub invariant-bytes : goal.invariant-bytes
invariant-bytes l =
    record {
      read : with_front (take l.count l.out) (at l.place (seen l.complemented l.rest)) ≡ text_at (seen l.complemented l.bytes);
      room : l.count + length l.rest ≤ 1024;
      long : length l.out ≡ 1024;
    }

abbrev pub decreases-bytes : goal.decreases-bytes
decreases-bytes l = length l.rest
