use Rattle.std.proofs.Common.{rules, ◌≡◌, ◌++◌, ◌∷◌, [], List, length, drop, sym, ◌∙◌, ap, arith}
use Rattle.page_packer.specs.declared.edge.Level.{Level}
use Rattle.page_packer.specs.Layout.{Laid}
use Rattle.page_packer.specs.Levels.{closes_over, laid_of}
use Rattle.page_packer.proofs.Closed.{popped, closes_more, closes_longer, root_below, root_high}
use Rattle.page_packer.proofs.edge.close_levels.Goals as goal

pub close_level-requires-clause-levels : goal.close_level-requires-clause-levels
close_level-requires-clause-levels c =
    let l = c.in-Some.level in
    let e : c.close.levels.items ≡ c.pop.new.self.items ++ l ∷ [] = c.in-Some.ensures.items in
    let n : c.len.result ≡ length c.close.levels.items = search rules in
    let p = popped c.close.levels.items c.pop.new.self.items l c.args.depth c.args.start e (omega (arith, n, c.close-test.true)) in
    let levels = p.levels c.close.invariant.levels in
    levels.1

pub close_level-requires-clause-room : goal.close_level-requires-clause-room
close_level-requires-clause-room c =
    let l = c.in-Some.level in
    let e : c.close.levels.items ≡ c.pop.new.self.items ++ l ∷ [] = c.in-Some.ensures.items in
    let n : c.len.result ≡ length c.close.levels.items = search rules in
    let p = popped c.close.levels.items c.pop.new.self.items l c.args.depth c.args.start e (omega (arith, n, c.close-test.true)) in
    let levels = p.levels c.close.invariant.levels in
    let longer = closes_longer (drop c.args.depth c.close.levels.items) (laid_of c.close.work.out c.close.root) c.args.start in
    omega (arith, longer, ap (λ (x : Laid). length x.bytes) c.close.invariant.laid, c.requires.room)

pub close-preserved-in-Some : goal.close-preserved-in-Some
close-preserved-in-Some c =
    let l = c.in-Some.level in
    let e : c.close.levels.items ≡ c.pop.new.self.items ++ l ∷ [] = c.in-Some.ensures.items in
    let n : c.len.result ≡ length c.close.levels.items = search rules in
    let p = popped c.close.levels.items c.pop.new.self.items l c.args.depth c.args.start e (omega (arith, n, c.close-test.true)) in
    let levels = p.levels c.close.invariant.levels in
    let before = laid_of c.close.work.out c.close.root in
    let one = closes_over (l ∷ []) before c.args.start in
    let is : laid_of c.close_level.new.work.out c.in_ok-root.root ≡ one = ap (λ x. laid_of x c.in_ok-root.root) c.in_ok-root.ensures.bytes ∙ ap (λ n. laid_of one.bytes n) c.in_ok-root.ensures.root in
    let high = root_below l before c.args.start in
    let low = root_high l before c.args.start in
    record {
      deep = p.deep;
      front = p.front ∙ c.close.invariant.front;
      levels = levels.0;
      low = omega (arith, low, c.in_ok-root.ensures.root);
      high = omega (arith, high, c.in_ok-root.ensures.root, ap length c.in_ok-root.ensures.bytes);
      laid = ap (λ (x : Laid). closes_over (drop c.args.depth c.pop.new.self.items) x c.args.start) is ∙ sym (closes_more (drop c.args.depth c.pop.new.self.items) l before c.args.start)
          ∙ ap (λ (x : List Level). closes_over x before c.args.start) (sym p.split_) ∙ c.close.invariant.laid;
    }
