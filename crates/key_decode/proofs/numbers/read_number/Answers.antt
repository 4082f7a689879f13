use Rattle.std.proofs.Common.{◌∙◌, arith, ap, sym}
use Rattle.key_decode.specs.Reading.{seen, unsigned_at}
use Rattle.key_decode.proofs.Turn.{seen_length}
use Rattle.key_decode.proofs.Cut.{number_cut, number_few}
use Rattle.key_decode.proofs.numbers.read_number.Goals as goal

pub returns-in-Some-clause-gives : goal.returns-in-Some-clause-gives
returns-in-Some-clause-gives c =
    let (inside, front, back, long, rest) = c.in-Some.ensures.cases in
    ap (λ k. unsigned_at k c.args.number (seen c.args.complemented c.args.bytes.now)) (sym c.from.ensures)
    ∙ number_cut c.args.complemented c.from.result c.args.number c.with_digits.result c.args.bytes.now c.in-Some.digits.now c.in-Some.rest.now front back long c.with_digits.ensures.value

pub returns-in-None-clause-gives : goal.returns-in-None-clause-gives
returns-in-None-clause-gives c =
    let long = seen_length c.args.complemented c.args.bytes.now in
    number_few c.args.count c.args.number (seen c.args.complemented c.args.bytes.now) (omega (arith, c.in-None.ensures.cases, c.from.ensures))
