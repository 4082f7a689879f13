use Rattle.std.proofs.Common.{◌≡◌, ◌+◌, ◌-◌, ◌%◌, ◌<◌, ◌≤◌, Option, ap, arith, length, length-append, ltb-true, subst, sym, ◌∙◌}
use Rattle.std.proofs.lemmas.Grind.{common_steps}
use Rattle.outside.specs.Files.{Files}
use Rattle.data_file.specs.Held.{IsFront, IsRest}
use Rattle.table_reader.proofs.Held.{front_grown, rest_whole}
use Rattle.table_reader.proofs.row_value.read_on.Goals as goal

pub returns-clause-front : goal.returns-clause-front
returns-clause-front g c =
    let count = 4096 - (c.args.at + c.len.result) % 4096 in
    subst (λ (f : Option Files). IsFront f c.args.file c.args.at c.add_from_page.new.held) (sym c.in_ok-add_from_page.ensures.files)
    (front_grown (g.K.Store.files c.args.store.now) c.args.file c.args.at (c.args.at + c.len.result) count c.args.held.now c.add_from_page.new.held
    (ap (λ n. c.args.at + n) c.len.ensures) c.requires.front c.in_ok-add_from_page.ensures.added)

pub returns-clause-on : goal.returns-clause-on
returns-clause-on g c = let on = c.in_ok-add_from_page.ensures.on in (on.0, on.1, omega (arith, on.2))

pub returns-clause-grown : goal.returns-clause-grown
returns-clause-grown g c =
    λ whole.
    let on = c.in_ok-add_from_page.ensures.on in
    let count = 4096 - (c.args.at + c.len.result) % 4096 in
    let sum : length c.add_from_page.new.held ≡ length c.args.held.now + length on.0 = ap length on.1 ∙ length-append c.args.held.now on.0 in
    let most : length on.0 ≤ count = on.2 in
    let all : c.len-before.result + count ≤ c.len-2.result = grind (arith, common_steps) in
    let same : c.len-before.result ≡ length c.args.held.now = c.len-before.ensures in
    let also : c.len.result ≡ length c.args.held.now = c.len.ensures in
    let now : c.len-2.result ≡ length c.add_from_page.new.held = c.len-2.ensures in
    let full : length c.add_from_page.new.held ≡ length c.args.held.now + count = omega arith in
    full ∙ ap (λ n. length c.args.held.now + (4096 - (c.args.at + n) % 4096)) also

pub returns-clause-ended : goal.returns-clause-ended
returns-clause-ended g c =
    λ less.
    let count = 4096 - (c.args.at + c.len.result) % 4096 in
    let few = ltb-true c.len-2.result (c.len-before.result + count) less in
    let fewer : length c.add_from_page.new.held < length c.args.held.now + count = omega (arith, few, c.len-2.ensures, c.len-before.ensures) in
    subst (λ (f : Option Files). IsRest f c.args.file c.args.at c.add_from_page.new.held) (sym c.in_ok-add_from_page.ensures.files)
    (rest_whole (g.K.Store.files c.args.store.now) c.args.file c.args.at (c.args.at + c.len.result) count c.args.held.now c.add_from_page.new.held
    (ap (λ n. c.args.at + n) c.len.ensures) c.requires.front c.in_ok-add_from_page.ensures.added fewer)
