use Rattle.std.proofs.Common.{◌≡◌, length, map}
use Rattle.std.specs.List.{list_any}
use Rattle.std.specs.String.{string_bytes}
use Rattle.command_line.specs.Reading.{is_refused}
use Rattle.command_line.proofs.reading.has_refused.Given as goal

abbrev pub invariant-words : goal.invariant-words
invariant-words l = list_any is_refused (map string_bytes l.rest) ≡ list_any is_refused (map string_bytes l.fn.words)

abbrev pub decreases-words : goal.decreases-words
decreases-words l = length l.rest
