use Rattle.std.proofs.Common.{◌≡◌, ◌++◌, ◌-◌, take, drop, map}
use Rattle.key_types.proofs.bytes.complement.Given as goal

abbrev pub invariant-loop-byte : goal.invariant-loop-byte
invariant-loop-byte l = l.bytes ≡ map (λ b. 255 - b) (take l.byte-index l.initial.bytes) ++ drop l.byte-index l.initial.bytes
