use Rattle.std.proofs.Common.{arith, is_ok}
use Rattle.outside.proofs.Pieces.{kept}
use Rattle.outside.proofs.mem_sink.MemSinkSink.push.Goals as goal

pub returns-in-Some-clause-bytes : goal.returns-in-Some-clause-bytes
returns-in-Some-clause-bytes c =
    rw (← c.self.view_is) (kept (is_ok c.extend_from_slice.result) _ _ _ _ c.min-kept.result (omega (arith, c.min-kept.ensures)) c.split_at.ensures.front
    c.extend_from_slice.ensures.items)
