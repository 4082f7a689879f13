use Rattle.std.proofs.Common.{◌≡◌, ◌++◌, length, take, map}
use Rattle.bti_nodes.specs.Spelling.{letter_of}
use Rattle.bti_nodes.proofs.encode.put_letters.Given as goal

abbrev pub invariant-children : goal.invariant-children
invariant-children l =
    record { kept : take (length l.fn.out) l.out ≡ l.fn.out; row : l.out ++ map letter_of l.rest ≡ l.fn.out ++ map letter_of l.children }

abbrev pub decreases-children : goal.decreases-children
decreases-children l = length l.rest
