use Rattle.std.proofs.Common.{◌≡◌, length}
use Rattle.key_text.specs.Reading.{quoted_at}
use Rattle.grammar.specs.Reading.{with_front}
use Rattle.key_text.proofs.tokens.read_quoted.Given as goal

abbrev pub invariant-quotes : goal.invariant-quotes
invariant-quotes l = with_front l.out (quoted_at l.rest) ≡ quoted_at l.bytes

abbrev pub decreases-quotes : goal.decreases-quotes
decreases-quotes l = length l.rest
