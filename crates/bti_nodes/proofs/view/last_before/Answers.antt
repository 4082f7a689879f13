use Rattle.std.proofs.Common.{◌≡◌, ◌+◌, ◌-◌, ◌<◌, ℕ, Option, map, sym, ◌∙◌, ap, arith}
use Rattle.std.specs.List.{range_with_len}
use Rattle.bti_nodes.specs.declared.node.Child.{Child}
use Rattle.bti_nodes.specs.Grammar.{child_by}
use Rattle.bti_nodes.specs.Children.{last_child, any, child_or}
use Rattle.bti_nodes.proofs.Sides.{step_down}
use Rattle.bti_nodes.proofs.view.last_before.Goals as goal

-- one place fewer
fewer : (f : ℕ → Option Child) (n : ℕ) → 0 < n → last_child any (map f (range_with_len 0 n)) ≡ child_or (f (n - 1)) (last_child any (map f (range_with_len 0 (n - 1))))
fewer f n h = let e : n ≡ (n - 1) + 1 = omega arith in ap (λ k. last_child any (map f (range_with_len 0 k))) e ∙ step_down f (n - 1)

pub returns-in-Some : goal.returns-in-Some
returns-in-Some c =
    let f = child_by c.args.kind c.args.places c.args.bytes.now in
    let rest = last_child any (map f (range_with_len 0 (c.places.count - 1))) in
    sym (sym c.places.invariant.same ∙ fewer f c.places.count c.places-test.true ∙ ap (λ x. child_or x rest) (sym c.in-Some.ensures))

pub places-preserved : goal.places-preserved
places-preserved c =
    let f = child_by c.args.kind c.args.places c.args.bytes.now in
    let rest = last_child any (map f (range_with_len 0 (c.places.count - 1))) in
    record {
      within = omega arith;
      same = ap (λ x. child_or x rest) c.in_default.ensures ∙ sym (fewer f c.places.count c.places-test.true) ∙ c.places.invariant.same;
    }
