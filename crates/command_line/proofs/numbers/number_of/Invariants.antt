use Rattle.std.proofs.Common.{◌≡◌, length, Some}
use Rattle.command_line.specs.Numbers.{digits_from, number_of}
use Rattle.command_line.proofs.numbers.number_of.Given as goal

abbrev pub invariant-digits : goal.invariant-digits
invariant-digits l = digits_from (Some l.number) l.rest ≡ number_of l.fn.text

abbrev pub decreases-digits : goal.decreases-digits
decreases-digits l = length l.rest
