use Rattle.std.proofs.Common.{arith}
use Rattle.key_types.proofs.Turned.{next}
use Rattle.key_types.proofs.bytes.complement.Goals as goal

pub loop-byte-preserved : goal.loop-byte-preserved
loop-byte-preserved c = next c.loop-byte.byte-index c.args.bytes.now c.loop-byte.bytes (omega arith) c.loop-byte.invariant
