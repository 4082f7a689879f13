use Rattle.std.proofs.Common.{◌≡◌, ◌++◌, false, length, take}
use Rattle.byte_comparable.specs.Bytewise.{bytewise}
use Rattle.byte_comparable.proofs.encoding.put_bytewise.Given as goal

abbrev pub invariant-bytes : goal.invariant-bytes
invariant-bytes l = (l.out ++ bytewise l.behind l.rest ≡ l.fn.out ++ bytewise false l.bytes) × (take (length l.fn.out) l.out ≡ l.fn.out)

abbrev pub decreases-bytes : goal.decreases-bytes
decreases-bytes l = length l.rest
