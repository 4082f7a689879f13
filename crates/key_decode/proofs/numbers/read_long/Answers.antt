use Rattle.std.proofs.Common.{arith, Bor, List, ℕ}
use Rattle.key_decode.specs.Reading.{seen}
use Rattle.key_decode.proofs.Flipped.{seen_bytes, below}
use Rattle.key_decode.proofs.numbers.read_long.Goals as goal

pub returns-clause-below : goal.returns-clause-below
returns-clause-below c =
    below (λ (x : Bor (List ℕ)). seen c.args.complemented x.now) (seen c.args.complemented c.args.bytes.now) c.in_ok-first.first (seen c.args.complemented c.in_ok-first.rest.now) c.count_of.result c.read_second.result
    (seen_bytes c.args.complemented c.args.bytes.now (λ i. omega (arith, c.type_inv.bytes i))) c.in_ok-first.ensures.gives c.count_of.ensures c.read_second.ensures.gives
