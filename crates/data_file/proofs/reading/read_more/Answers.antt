use Rattle.std.proofs.Common.{◌+◌, ◌<◌, Option, arith, ap, length, ltb-true, subst, sym}
use Rattle.std.proofs.lemmas.Grind.{common_steps}
use Rattle.outside.specs.Files.{Files}
use Rattle.data_file.specs.Held.{IsFront, IsRest}
use Rattle.data_file.proofs.Pages.{read_front, read_rest}
use Rattle.data_file.proofs.reading.read_more.Goals as goal

pub returns-clause-front : goal.returns-clause-front
returns-clause-front g c =
    subst (λ (f : Option Files). IsFront f c.args.file c.args.at c.extend.new.self) (sym c.in_ok-count.ensures.files)
    (read_front (g.K.Store.files c.args.store.now) c.args.file c.args.at (c.args.at + c.len.result) c.in_ok-count.count c.args.held.now c.read.new.into
    c.extend.new.self (ap (λ n. c.args.at + n) c.len.ensures) c.requires.front c.in_ok-count.ensures.bytes c.in_ok-extend.ensures.ok)

pub returns-clause-ended : goal.returns-clause-ended
returns-clause-ended g c =
    λ less.
    let few = ltb-true c.in_ok-count.count 4096 less in
    let fewer : c.in_ok-count.count < length c.read.new.into = grind (arith, common_steps) in
    subst (λ (f : Option Files). IsRest f c.args.file c.args.at c.extend.new.self) (sym c.in_ok-count.ensures.files)
    (read_rest (g.K.Store.files c.args.store.now) c.args.file c.args.at (c.args.at + c.len.result) c.in_ok-count.count c.args.held.now c.read.new.into
    c.extend.new.self (ap (λ n. c.args.at + n) c.len.ensures) c.requires.front c.in_ok-count.ensures.bytes c.in_ok-extend.ensures.ok fewer)
