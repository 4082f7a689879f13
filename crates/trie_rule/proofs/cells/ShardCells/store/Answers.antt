use Rattle.std.proofs.Common.{[], arith, sym, ap, subst}
use Rattle.trie_rule.specs.Rule.{write_view_of}
use Rattle.trie_rule.specs.Seats.{IsNext, WriterAt}
use Rattle.trie_rule.proofs.Keeps.{writes_inside, done_small}
use Rattle.trie_rule.proofs.SeatFields.{wrote_seat}
use Rattle.trie_rule.proofs.cells.ShardCells.store.Goals as goal

pub count-used-requires-clause-done : goal.count-used-requires-clause-done
count-used-requires-clause-done c = let i = c.seat.invariant in omega (arith, i.3, done_small (write_view_of c.seat.inside.seat.me.0) [] i.4)

pub store_as-requires-clause-inside : goal.store_as-requires-clause-inside
store_as-requires-clause-inside c =
    let n = subst (λ (x : WriterAt). IsNext x.knows c.args.key.now c.args.value.now c.args.step) (sym c.seat.view_is) c.requires.next in
    omega (arith, c.requires.own.1, ap (λ x. x.knows.cells) c.seat.view_is, writes_inside (write_view_of c.seat.inside.seat.me.0) c.args.key.now c.args.value.now c.args.step n c.seat.invariant.4)

pub invariant_of-seat : goal.invariant_of-seat
invariant_of-seat c =
    let n = subst (λ (x : WriterAt). IsNext x.knows c.args.key.now c.args.value.now c.args.step) (sym c.seat.view_is) c.requires.next in
    wrote_seat c.seat.inside.seat c.store_as.new.seat c.seat.inside.used c.seat.inside.done c.count-used.result.0 c.count-used.result.1 c.args.key.now c.args.value.now c.args.step c.seat.invariant n c.store_as.ensures.same.0 c.store_as.ensures.wrote c.count-used.ensures
