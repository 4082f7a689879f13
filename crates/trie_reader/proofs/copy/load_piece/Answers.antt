use Rattle.std.proofs.Common.{◌*◌, arith}
use Rattle.trie_reader.proofs.Copies.{piece_below, piece_given}
use Rattle.trie_reader.proofs.copy.load_piece.Goals as goal

pub overflow_mul-rec : goal.overflow_mul-rec
overflow_mul-rec g c = let view = c.args.seat.now.knows in
    omega (arith, c.requires.own.1, piece_below (4 * view.cells) view.seen c.args.rec c.args.place c.has_values.ensures c.requires.record c.requires.inside, c.cells.ensures.is, c.cells.ensures.most)

pub overflow_add-rec : goal.overflow_add-rec
overflow_add-rec g c = let view = c.args.seat.now.knows in
    omega (arith, c.requires.own.1, piece_below (4 * view.cells) view.seen c.args.rec c.args.place c.has_values.ensures c.requires.record c.requires.inside, c.cells.ensures.is, c.cells.ensures.most)

pub overflow_add-rec-2 : goal.overflow_add-rec-2
overflow_add-rec-2 g c = let view = c.args.seat.now.knows in
    omega (arith, c.requires.own.1, piece_below (4 * view.cells) view.seen c.args.rec c.args.place c.has_values.ensures c.requires.record c.requires.inside, c.cells.ensures.is, c.cells.ensures.most)

pub load-requires-clause-inside : goal.load-requires-clause-inside
load-requires-clause-inside g c = let view = c.args.seat.now.knows in
    omega (arith, c.requires.own.1, piece_below (4 * view.cells) view.seen c.args.rec c.args.place c.has_values.ensures c.requires.record c.requires.inside)

pub returns-clause-piece : goal.returns-clause-piece
returns-clause-piece g c = piece_given c.args.seat.now.knows.seen c.args.rec c.args.place c.load.result c.load.ensures.value c.requires.inside
