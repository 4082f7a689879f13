use Rattle.std.proofs.Common.{◌≡◌, ◌<◌, ◌^◌, ◌∙◌, ap, sym, arith, w64, to_z, of_z, Ok}
use Rattle.std.proofs.lemmas.Int.{ints}
use Rattle.std.specs.Prelude.{ℤ, negsuc, ◌-ℤ◌}
use Rattle.key_types.specs.Kinds.{number}
use Rattle.key_decode.specs.Reading.{seen}
use Rattle.key_decode.proofs.Flipped.{low_ok, low_stops, is_low}
use Rattle.key_decode.proofs.numbers.read_big.Goals as goal

pub returns-in-Ok-clause-gives : goal.returns-in-Ok-clause-gives
returns-in-Ok-clause-gives c =
    let n = c.in-Ok.number in
    let t = c.args.complemented in
    let rest = c.in-Ok.rest.now in
    let below : n < 2 ^ 63 = omega (arith, c.in-Ok.ensures.below) in
    let same : to_z w64 (of_z w64 (negsuc 0 -ℤ to_z w64 n)) ≡ negsuc n = omega (arith, ints) in
    low_ok t c.flipped.result c.flipped.ensures c.args.bytes.now c.in_ok-first.first (seen t c.in_ok-first.field-0-1.now) c.in_ok-first.ensures.ok (is_low c.in_ok-first.first (omega arith)) n rest c.in-Ok.ensures.gives
    ∙ ap (λ (x : ℤ). Ok (number x, seen t rest)) (sym same)

pub returns-in-Err-clause-gives : goal.returns-in-Err-clause-gives
returns-in-Err-clause-gives c =
    let t = c.args.complemented in
    low_stops t c.flipped.result c.flipped.ensures c.args.bytes.now c.in_ok-first.first (seen t c.in_ok-first.field-0-1.now) c.in_ok-first.ensures.ok (is_low c.in_ok-first.first (omega arith)) c.in-Err.stop c.in-Err.ensures.gives
