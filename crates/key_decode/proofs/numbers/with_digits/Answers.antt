use Rattle.std.proofs.Common.{◌+◌, ◌-◌, ◌*◌, ◌^◌, ◌<◌, ◌≤◌, ℕ, List, length, refl, arith, ◌∙◌}
use Rattle.key_decode.proofs.Cut.{digit_next}
use Rattle.key_decode.proofs.Room.{Room, room}
use Rattle.key_decode.proofs.numbers.with_digits.Goals as goal

-- a digit more has room
more : (bs : List ℕ) (i first n s : ℕ) → i < length bs → (n + 1) * 256 ^ (length bs - i) ≤ (first + 1) * 256 ^ length bs → (first + 1) * 256 ^ length bs ≤ 2 ^ 64 → s < 256
    → Room n (length bs - i) (length bs - (i + 1)) s
more bs i first n s less inside most byte = room n (length bs - i) (length bs - (i + 1)) s (omega arith) (omega (arith, inside, most)) byte

pub overflow_mul-number : goal.overflow_mul-number
overflow_mul-number c =
    let r = more c.args.digits.now c.loop-digit.digit-index c.args.number c.loop-digit.number 0 c.loop-digit-test.true c.loop-digit.invariant.room c.requires (omega arith) in
    omega (arith, r.fits)

pub overflow_add-number : goal.overflow_add-number
overflow_add-number c =
    let r = more c.args.digits.now c.loop-digit.digit-index c.args.number c.loop-digit.number c.from.result c.loop-digit-test.true c.loop-digit.invariant.room c.requires (omega (arith, c.seen_byte.ensures.byte)) in
    omega (arith, r.fits)

pub loop-digit-preserved : goal.loop-digit-preserved
loop-digit-preserved c =
    let r = more c.args.digits.now c.loop-digit.digit-index c.args.number c.loop-digit.number c.from.result c.loop-digit-test.true c.loop-digit.invariant.room c.requires (omega (arith, c.seen_byte.ensures.byte)) in
    record {
      read = digit_next c.args.complemented c.args.digits.now c.loop-digit.digit-index _ c.from.result c.loop-digit.number c.loop-digit-test.true refl (rw c.from.ensures c.seen_byte.ensures.seen) ∙ c.loop-digit.invariant.read;
      room = omega (arith, r.within, c.loop-digit.invariant.room);
    }
