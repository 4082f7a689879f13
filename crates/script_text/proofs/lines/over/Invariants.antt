use Rattle.std.proofs.Common.{◌≡◌, ◌+◌, ◌≤◌, length}
use Rattle.script_text.specs.Lines.{lines_of}
use Rattle.script_text.proofs.lines.over.Given as goal

abbrev pub invariant-lines : goal.invariant-lines
invariant-lines l = (length (lines_of l.bytes) + l.left ≡ length (lines_of l.rest) + l.most) × (l.left ≤ l.most)

abbrev pub decreases-lines : goal.decreases-lines
decreases-lines l = length l.rest
