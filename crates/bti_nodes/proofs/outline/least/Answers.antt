use Rattle.std.proofs.Common.{◌≡◌, ◌≤◌, ◌-◌, true, false, refl, sym, ◌∙◌, ap, arith}
use Rattle.std.proofs.lemmas.Bool.Decides.{nat_tests}
use Rattle.bti_nodes.specs.Spelling.{size_as, holds, least_from, kind_of_number, size_by}
use Rattle.bti_nodes.proofs.Least.{taken, passed, larger, one_more, shape_of_held}
use Rattle.bti_nodes.proofs.outline.least.Goals as goal

pub loop-number-init : goal.loop-number-init
unfolding least_from
loop-number-init c = record {
  best = refl;
  size = c.size_as-size.ensures.value ∙ ap (λ k. size_as k c.args.o.now) c.kind_by.ensures.kind;
  low = omega arith;
  written = omega arith;
  held = grind (arith, nat_tests);
}

pub loop-number-preserved-then-other-size : goal.loop-number-preserved-then-other-size
loop-number-preserved-then-other-size c =
    let o = c.args.o.now in
    let n = c.loop-number.number - 1 in
    let same = c.kind_by-kind.ensures.kind in
    let held : holds (kind_of_number n) o ≡ true = ap (λ k. holds k o) (sym same) ∙ sym c.holds.ensures ∙ c.if-holds.true in
    let size : c.size_as-other.result ≡ size_by n o = c.size_as-other.ensures.value ∙ ap (λ k. size_as k o) same in
    let less : size_by n o ≤ size_by c.loop-number.best o = omega (arith, size, c.loop-number.invariant.size, c.if-other-size.true) in
    record {
      best = one_more c.loop-number.number c.loop-number.best n o (omega arith) (omega arith) c.loop-number.invariant.best (taken n c.loop-number.best o held less);
      size = size;
      low = omega arith;
      written = omega arith;
      held = shape_of_held (kind_of_number n) o held;
    }

pub loop-number-preserved-else-other-size : goal.loop-number-preserved-else-other-size
loop-number-preserved-else-other-size c =
    let o = c.args.o.now in
    let n = c.loop-number.number - 1 in
    let size : c.size_as-other.result ≡ size_by n o = c.size_as-other.ensures.value ∙ ap (λ k. size_as k o) c.kind_by-kind.ensures.kind in
    record {
      best = one_more c.loop-number.number c.loop-number.best c.loop-number.best o (omega arith) (omega arith) c.loop-number.invariant.best (larger n c.loop-number.best o (omega (arith, size, c.loop-number.invariant.size, c.if-other-size.false)));
      size = c.loop-number.invariant.size;
      low = omega arith;
      written = c.loop-number.invariant.written;
      held = c.loop-number.invariant.held;
    }

pub loop-number-preserved : goal.loop-number-preserved
loop-number-preserved c =
    let o = c.args.o.now in
    let n = c.loop-number.number - 1 in
    let held : holds (kind_of_number n) o ≡ false = ap (λ k. holds k o) (sym c.kind_by-kind.ensures.kind) ∙ sym c.holds.ensures ∙ c.if-holds.false in
    record {
      best = one_more c.loop-number.number c.loop-number.best c.loop-number.best o (omega arith) (omega arith) c.loop-number.invariant.best (passed n c.loop-number.best o held);
      size = c.loop-number.invariant.size;
      low = omega arith;
      written = c.loop-number.invariant.written;
      held = c.loop-number.invariant.held;
    }

pub returns-clause-value : goal.returns-clause-value
returns-clause-value c =
    let one : c.loop-number.number ≡ 1 = omega arith in
    c.loop-number.invariant.best ∙ ap (λ m. least_from (14 - m) m c.args.o.now) one
