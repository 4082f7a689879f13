use Rattle.std.proofs.Common.{◌≡◌, ◌+◌, length}
use Rattle.key_types.specs.Columns.{columns_of}
use Rattle.script_text.specs.Lines.{lines_of}
use Rattle.script_text.specs.Script.{lines_from, script_by}
use Rattle.script_text.specs.Steps.{script_after, IsCounted}
use Rattle.script_text.proofs.reader.read_lines.Given as goal

abbrev pub invariant-lines : goal.invariant-lines
invariant-lines l =
    (script_after l.progress (lines_from (columns_of l.schema) l.readers (l.progress.line + 1) l.progress.gets (lines_of l.rest)) ≡ script_by (lines_from (columns_of l.schema) l.readers 1 0 (lines_of l.bytes)))
    × (l.progress.line + length (lines_of l.rest) ≡ length (lines_of l.bytes)) × IsCounted l.progress

abbrev pub decreases-lines : goal.decreases-lines
decreases-lines l = length l.rest
