use Rattle.std.proofs.Common.{length, ◌∙◌, ap, arith}
use Rattle.page_packer.specs.Layout.{Laid}
use Rattle.page_packer.specs.Levels.{tree_in}
use Rattle.page_packer.proofs.Length.{lay_root}
use Rattle.page_packer.proofs.Grows.{closing_is, on_ok, map_ok}
use Rattle.page_packer.proofs.grow.close_all.Goals as goal

pub close_levels-requires-clause-high : goal.close_levels-requires-clause-high
close_levels-requires-clause-high c =
    omega (arith, (lay_root (tree_in c.args.held) c.args.start).1, c.in_ok-first.ensures.root, ap length c.in_ok-first.ensures.bytes)

pub close_levels-requires-clause-room : goal.close_levels-requires-clause-room
close_levels-requires-clause-room c =
    let ls = c.args.levels.now.items in
    let t = tree_in c.args.held in
    let p = c.args.start in
    let full = closing_is ls t p c.lay_whole.new.work.out c.in_ok-first.first c.in_ok-first.ensures.bytes c.in_ok-first.ensures.root in
    omega (arith, ap (λ (l : Laid). length l.bytes) full, c.requires.room)

pub returns-clause-bytes : goal.returns-clause-bytes
returns-clause-bytes c =
    let ls = c.args.levels.now.items in
    let t = tree_in c.args.held in
    let p = c.args.start in
    let full = closing_is ls t p c.lay_whole.new.work.out c.in_ok-first.first c.in_ok-first.ensures.bytes c.in_ok-first.ensures.root in
    on_ok c.close_levels.result _ _ (λ e. e ∙ ap (λ (l : Laid). l.bytes) full) c.close_levels.ensures.bytes

pub returns-clause-root : goal.returns-clause-root
returns-clause-root c =
    let ls = c.args.levels.now.items in
    let t = tree_in c.args.held in
    let p = c.args.start in
    let full = closing_is ls t p c.lay_whole.new.work.out c.in_ok-first.first c.in_ok-first.ensures.bytes c.in_ok-first.ensures.root in
    map_ok c.close_levels.result _ _ (λ x e. e ∙ ap (λ (l : Laid). l.root) full) c.close_levels.ensures.root
