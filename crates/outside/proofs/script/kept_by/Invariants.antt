use Rattle.std.proofs.Common.{◌≡◌, length}
use Rattle.outside.specs.Script.{kept_by}
use Rattle.outside.proofs.script.kept_by.Given as goal

abbrev pub invariant-fails : goal.invariant-fails
invariant-fails l = kept_by l.rest l.call ≡ kept_by l.fn.fails l.fn.call

abbrev pub decreases-fails : goal.decreases-fails
decreases-fails l = length l.rest
