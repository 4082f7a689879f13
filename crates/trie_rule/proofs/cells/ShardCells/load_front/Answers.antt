use Rattle.std.proofs.Common.{arith, ap}
use Rattle.trie_rule.specs.Seats.{key_asked}
use Rattle.trie_rule.proofs.SeatFields.{fronted}
use Rattle.trie_rule.proofs.cells.ShardCells.load_front.Goals as goal

pub invariant_of-seat : goal.invariant_of-seat
invariant_of-seat g c =
    let e = c.front_as-word.ensures in
    fronted c.seat.inside.seat c.front_as-word.new.seat c.seat.inside.front c.max-base.result c.front_as-word.result (key_asked c.args.key) c.seat.invariant c.requires.key
    (omega (arith, e.cells, c.requires.own.1, ap (λ x. x.knows.cells) c.seat.view_is)) e.same.0 e.reader e.values e.front c.max-base.ensures
