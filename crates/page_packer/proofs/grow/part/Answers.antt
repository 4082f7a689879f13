use Rattle.std.proofs.Common.{rules, ◌≡◌, ◌+◌, Vec, length, drop, get_or, ◌∙◌, ap, subst, arith}
use Rattle.std.specs.declared.alloc.Global.{Global}
use Rattle.page_packer.specs.declared.edge.Level.{Level}
use Rattle.page_packer.specs.Layout.{Laid, lay}
use Rattle.page_packer.specs.Levels.{tree_in, closes_over, IsParted, laid_of}
use Rattle.page_packer.proofs.Length.{lay_root}
use Rattle.page_packer.proofs.Grows.{levels_behind, is_parted, taken_len, on_any}
use Rattle.page_packer.proofs.grow.part.Goals as goal
use Rattle.page_packer.proofs.grow.part.Goals.{in-Some+in_ok-stands+in_ok-push, in_default}

pub close_levels-requires-clause-levels : goal.close_levels-requires-clause-levels
close_levels-requires-clause-levels c = levels_behind c.args.start (c.args.depth + 1) (c.args.depth + 1) c.args.levels.now.items c.requires.levels (omega arith)

pub close_levels-requires-clause-high : goal.close_levels-requires-clause-high
close_levels-requires-clause-high c = omega (arith, (lay_root (tree_in c.args.held) c.args.start).1, c.in_ok-first.ensures.root, ap length c.in_ok-first.ensures.bytes)

pub returns-clause-levels : goal.returns-clause-levels
returns-clause-levels c =
    let old = c.args.levels.now.items in
    let d = c.args.depth in
    let b = get_or c.args.key.now d 0 in
    let below = drop (d + 1) old in
    let whole = lay (tree_in c.args.held) c.args.start in
    let same : laid_of c.lay_whole.new.work.out c.in_ok-first.first ≡ whole = ap (λ x. laid_of x c.in_ok-first.first) c.in_ok-first.ensures.bytes ∙ ap (λ n. laid_of whole.bytes n) c.in_ok-first.ensures.root in
    let root : c.in_ok-root.root ≡ (closes_over below whole c.args.start).root = c.in_ok-root.ensures.root ∙ ap (λ (x : Laid). (closes_over below x c.args.start).root) same in
    let parted : IsParted old c.match-pop.levels.items d b c.in_ok-root.root =
    elim c.match-pop.branch as (λ _. IsParted old c.match-pop.levels.items d b c.in_ok-root.root) [
      | in-Some+in_ok-stands+in_ok-push w ↦ is_parted old c.close_levels.new.levels.items c.pop.new.self.items c.match-pop.levels.items w.in-Some.level w.in_ok-stands.stands d b c.in_ok-root.root c.requires.deep c.in_ok-root.ensures.levels w.in-Some.ensures.items
          (ap (λ (v : Vec Level Global). v.items) w.levels-is ∙ w.in_ok-push.ensures.items) w.in_ok-stands.ensures.byte w.in_ok-stands.ensures.payload w.in_ok-stands.ensures.done
      | in_default w ↦ (let k = w.in_default.ensures.cases.0 in let n : length c.close_levels.new.levels.items ≡ 0 = search rules in
          absurd (omega (arith, n, ap length c.in_ok-root.ensures.levels, taken_len (d + 1) old (omega (arith, c.requires.deep)))))
    ] in
    on_any c.extend.result (IsParted old c.match-pop.levels.items d b (closes_over below whole c.args.start).root) (subst (λ n. IsParted old c.match-pop.levels.items d b n) root parted)
