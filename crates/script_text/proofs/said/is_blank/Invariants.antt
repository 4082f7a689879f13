use Rattle.std.proofs.Common.{◌≡◌, length}
use Rattle.script_text.specs.Reading.{is_blank}
use Rattle.script_text.proofs.said.is_blank.Given as goal

abbrev pub invariant-spaces : goal.invariant-spaces
invariant-spaces l = is_blank l.rest ≡ is_blank l.line

abbrev pub decreases-spaces : goal.decreases-spaces
decreases-spaces l = length l.rest
