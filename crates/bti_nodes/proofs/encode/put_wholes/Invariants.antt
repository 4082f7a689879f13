use Rattle.std.proofs.Common.{◌≡◌, ◌<◌, ◌^◌, ◌++◌, length, take}
use Rattle.std.specs.List.{flat_map, AllByRecursion}
use Rattle.byteorder.specs.Endian.{big_bytes}
use Rattle.bti_nodes.proofs.encode.put_wholes.Given as goal

abbrev pub invariant-numbers : goal.invariant-numbers
invariant-numbers l =
    record { kept : take (length l.fn.out) l.out ≡ l.fn.out; fit : AllByRecursion (λ d. d < 256 ^ l.count) l.rest; row : l.out ++ flat_map (big_bytes l.count) l.rest ≡ l.fn.out ++ flat_map (big_bytes l.count) l.ds }

abbrev pub decreases-numbers : goal.decreases-numbers
decreases-numbers l = length l.rest
