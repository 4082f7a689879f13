use Rattle.std.proofs.Common.{◌≡◌, ◌++◌, take, length}
use Rattle.key_types.specs.Literals.{hex_digits}
use Rattle.key_text.proofs.writing.put_hex.Given as goal

abbrev pub invariant-pieces : goal.invariant-pieces
invariant-pieces l = record {
  told : l.out ++ hex_digits l.rest ≡ l.fn.out ++ hex_digits l.fn.bytes;
  kept : take (length l.fn.out) l.out ≡ l.fn.out;
}

abbrev pub decreases-pieces : goal.decreases-pieces
decreases-pieces l = length l.rest
