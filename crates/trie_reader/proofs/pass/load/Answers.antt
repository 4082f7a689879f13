use Rattle.std.proofs.Common.{◌*◌, ap, refl}
use Rattle.trie_reader.specs.Passing.{find_at}
use Rattle.trie_reader.proofs.Passing.{loaded, counted, there}
use Rattle.trie_reader.proofs.pass.load.Goals as goal

pub load_next-requires-clause-find : goal.load_next-requires-clause-find
load_next-requires-clause-find g c = (find_at c.args.base c.args.place c.args.key.now, ap (λ x. x.find) c.requires.at, refl, refl)

pub returns-clause-passes : goal.returns-clause-passes
returns-clause-passes g c = loaded c.args.seat.now.knows c.load_next.new.seat.knows c.args.base c.args.place c.args.key.now c.load_next.result c.requires.at c.load_next.ensures.moves

pub returns-clause-steps : goal.returns-clause-steps
returns-clause-steps g c =
    let passes = loaded c.args.seat.now.knows c.load_next.new.seat.knows c.args.base c.args.place c.args.key.now c.load_next.result c.requires.at c.load_next.ensures.moves in
    counted c.load_next.new.seat.knows.seen (4 * c.args.seat.now.knows.cells) c.args.steps.now c.load_next.new.steps c.args.base c.args.place c.args.key.now c.load_next.result passes.tells c.load_next.ensures.step

pub returns-clause-there : goal.returns-clause-there
returns-clause-there g c =
    there c.args.seat.now.knows c.load_next.new.seat.knows c.args.base c.args.place c.args.key.now c.load_next.result (loaded c.args.seat.now.knows c.load_next.new.seat.knows c.args.base c.args.place c.args.key.now c.load_next.result c.requires.at c.load_next.ensures.moves)
