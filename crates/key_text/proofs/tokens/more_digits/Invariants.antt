use Rattle.std.proofs.Common.{◌≡◌, ◌<◌, ◌^◌, length}
use Rattle.key_text.specs.Reading.{digits_at, capped_all}
use Rattle.key_text.proofs.tokens.more_digits.Given as goal

abbrev pub invariant-digits : goal.invariant-digits
invariant-digits l = record {
  same : capped_all (digits_at l.value l.rest) ≡ capped_all (digits_at l.first l.bytes);
  bound : l.value < 2 ^ 64;
}

abbrev pub decreases-digits : goal.decreases-digits
decreases-digits l = length l.rest
