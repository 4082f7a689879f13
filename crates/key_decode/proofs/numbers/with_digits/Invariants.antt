use Rattle.std.proofs.Common.{◌≡◌, ◌+◌, ◌-◌, ◌*◌, ◌^◌, ◌≤◌, length, drop}
use Rattle.key_decode.specs.Reading.{seen, unsigned_at}
use Rattle.key_decode.proofs.numbers.with_digits.Given as goal

abbrev pub invariant-loop-digit : goal.invariant-loop-digit
invariant-loop-digit l =
    record {
      read : unsigned_at (length l.digits - l.digit-index) l.number (seen l.complemented (drop l.digit-index l.digits)) ≡ unsigned_at (length l.digits) l.initial.number (seen l.complemented l.digits);
      room : (l.number + 1) * 256 ^ (length l.digits - l.digit-index) ≤ (l.initial.number + 1) * 256 ^ length l.digits;
    }
