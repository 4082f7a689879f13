use Rattle.std.proofs.Common.{◌≡◌, ◌<◌, ◌^◌, ◌∙◌, ap, sym, arith, w64, to_z, of_z, ℕ, Ok}
use Rattle.std.proofs.lemmas.Int.{ints}
use Rattle.std.specs.Prelude.{ℤ, ◌-ℤ◌}
use Rattle.grammar.specs.Reading.{mapped}
use Rattle.key_types.specs.Kinds.{number}
use Rattle.key_decode.specs.Reading.{lowered, seen}
use Rattle.key_decode.proofs.Flipped.{four_bytes}
use Rattle.key_decode.proofs.numbers.read_signed.Goals as goal

pub read_number-requires : goal.read_number-requires
read_number-requires c = let p = four_bytes c.args.count c.requires in omega arith

pub overflow_cast-result : goal.overflow_cast-result
overflow_cast-result c =
    let p = four_bytes c.args.count c.requires in
    let small : c.in_ok-number.number < 2 ^ 32 = omega (arith, c.in_ok-number.ensures.below) in
    omega (arith, ints)

pub overflow_sub-result : goal.overflow_sub-result
overflow_sub-result c =
    let p = four_bytes c.args.count c.requires in
    let small : c.in_ok-number.number < 2 ^ 32 = omega (arith, c.in_ok-number.ensures.below) in
    omega (arith, ints)

pub returns-clause-gives : goal.returns-clause-gives
returns-clause-gives c =
    let p = four_bytes c.args.count c.requires in
    let n = c.in_ok-number.number in
    let small : n < 2 ^ 32 = omega (arith, c.in_ok-number.ensures.below) in
    let same : to_z w64 (of_z w64 (to_z w64 n -ℤ to_z w64 (of_z w64 c.from.result))) ≡ lowered c.args.half n = omega (arith, ints) in
    ap (mapped (λ (m : ℕ). number (lowered c.args.half m))) c.in_ok-number.ensures.gives ∙ ap (λ (x : ℤ). Ok (number x, seen c.args.complemented c.in_ok-number.rest.now)) (sym same)
