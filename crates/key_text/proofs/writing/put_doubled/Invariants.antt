use Rattle.std.proofs.Common.{◌≡◌, ◌++◌, take, length}
use Rattle.key_types.specs.Literals.{quotes_doubled}
use Rattle.key_text.proofs.writing.put_doubled.Given as goal

abbrev pub invariant-quotes : goal.invariant-quotes
invariant-quotes l = record {
  told : l.out ++ quotes_doubled l.rest ≡ l.fn.out ++ quotes_doubled l.text;
  kept : take (length l.fn.out) l.out ≡ l.fn.out;
}

abbrev pub decreases-quotes : goal.decreases-quotes
decreases-quotes l = length l.rest
