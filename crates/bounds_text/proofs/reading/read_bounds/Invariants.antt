use Rattle.std.proofs.Common.{length}
use Rattle.key_types.specs.Columns.{columns_of}
use Rattle.bounds_text.specs.Steps.{HasReadBounds}
use Rattle.bounds_text.proofs.reading.read_bounds.Given as goal

abbrev pub invariant-bounds : goal.invariant-bounds
invariant-bounds l = HasReadBounds (columns_of l.schema).partition l.text l.bounds l.rest

abbrev pub decreases-bounds : goal.decreases-bounds
decreases-bounds l = length l.rest
