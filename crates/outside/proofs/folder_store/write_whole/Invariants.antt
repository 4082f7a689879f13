use Rattle.std.proofs.Common.{◌≤◌, length}
use Rattle.outside.proofs.folder_store.write_whole.Given as goal

abbrev pub invariant-pieces : goal.invariant-pieces
invariant-pieces g l = length l.rest ≤ length l.fn.piece

abbrev pub decreases-pieces : goal.decreases-pieces
decreases-pieces g l = length l.rest
