use Rattle.std.proofs.Common.{◌≡◌, ◌+◌, ◌-◌, map, sym, ◌∙◌, ap, arith}
use Rattle.std.specs.List.{range_with_len}
use Rattle.bti_nodes.specs.Grammar.{child_by}
use Rattle.bti_nodes.specs.Children.{first_child, any, child_or}
use Rattle.bti_nodes.proofs.Sides.{step_up}
use Rattle.bti_nodes.proofs.view.first_from.Goals as goal

pub returns-in-Some : goal.returns-in-Some
returns-in-Some c =
    let f = child_by c.args.kind c.args.places c.args.bytes.now in
    let i = c.loop-i.i in
    let rest = first_child any (map f (range_with_len (i + 1) (c.args.places - (i + 1)))) in
    sym (sym c.loop-i.invariant ∙ step_up f i c.args.places c.loop-i-test.true ∙ ap (λ x. child_or x rest) (sym c.in-Some.ensures))

pub loop-i-preserved : goal.loop-i-preserved
loop-i-preserved c =
    let f = child_by c.args.kind c.args.places c.args.bytes.now in
    let i = c.loop-i.i in
    let rest = first_child any (map f (range_with_len (i + 1) (c.args.places - (i + 1)))) in
    ap (λ x. child_or x rest) c.in_default.ensures ∙ sym (step_up f i c.args.places c.loop-i-test.true) ∙ c.loop-i.invariant

pub returns : goal.returns
returns c =
    let f = child_by c.args.kind c.args.places c.args.bytes.now in
    let none : c.args.places - c.loop-i.i ≡ 0 = omega arith in
    ap (λ n. first_child any (map f (range_with_len c.loop-i.i n))) (sym none) ∙ c.loop-i.invariant
