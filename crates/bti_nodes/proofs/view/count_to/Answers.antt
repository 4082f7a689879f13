use Rattle.std.proofs.Common.{◌<◌, arith, inl, inr}
use Rattle.std.proofs.Math.Nat.{eq-or-lt_of_le}
use Rattle.bti_nodes.specs.Grammar.{letter_at}
use Rattle.bti_nodes.proofs.Sides.{letters_rise}
use Rattle.bti_nodes.proofs.view.count_to.Goals as goal
use Rattle.bti_nodes.proofs.view.count_to.Goals.{else-count-places-via-then-count-places+else-letter_at-byte, else-count-places-via-else-count-places}

pub returns-then-letter_at-byte-clause-greater : goal.returns-then-letter_at-byte-clause-greater
returns-then-letter_at-byte-clause-greater c i l m =
    let up = letters_rise c.args.kind c.args.places c.args.bytes.now c.requires c.count_below-count.result i (omega arith) m in
    omega (arith, up, c.letter_at.ensures, c.if-letter_at-byte.true)

pub returns-else-count-places-clause-greater : goal.returns-else-count-places-clause-greater
returns-else-count-places-clause-greater c i l m = elim c.else-count-places.branch [
  | else-count-places-via-then-count-places+else-letter_at-byte w ↦ (let first = c.count_below-count.ensures.others c.count_below-count.result (omega arith) (omega arith) in
      elim (eq-or-lt_of_le l) as (λ _. c.args.byte < letter_at c.args.kind.shape c.args.kind.width c.args.bytes.now i) [
        | inl same ↦ rw (← same) (omega (arith, first, w.letter_at.ensures, w.if-letter_at-byte.false))
        | inr less ↦ (let up = letters_rise c.args.kind c.args.places c.args.bytes.now c.requires c.count_below-count.result i less m in omega (arith, first, up))
      ])
  | else-count-places-via-else-count-places w ↦ absurd (omega arith)
]
