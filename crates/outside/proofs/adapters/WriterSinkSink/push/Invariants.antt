use Rattle.std.proofs.Common.{◌≤◌, length}
use Rattle.outside.proofs.adapters.WriterSinkSink.push.Given as goal

abbrev pub invariant-loop-rest : goal.invariant-loop-rest
invariant-loop-rest g l = (l.initial.self.faults ≤ l.self.faults) × (length l.rest ≤ length l.fn.piece)

abbrev pub decreases-loop-rest : goal.decreases-loop-rest
decreases-loop-rest g l = length l.rest
