use Rattle.std.proofs.Common.{rules, arith, ap, ◌∙◌}
use Rattle.trie_rule.proofs.Keeps.{owns_look, owns_split}
use Rattle.trie_rule.proofs.SeatFields.{same_writer, told_holds}
use Rattle.trie_rule.proofs.cells.ShardCells.split.Goals as goal

pub load-front-requires : goal.load-front-requires
load-front-requires c = (search rules, search rules, owns_look _ _ _ _ _ 0 c.seat.invariant.0 (omega (arith, c.self.invariant.3, c.requires.own.1, ap (λ x. x.knows.cells) c.seat.view_is, ap (λ x. x.cells) c.self.view_is)))

pub split_seat-seat-requires : goal.split_seat-seat-requires
split_seat-seat-requires c = (search rules, search rules, owns_split _ _ 0 _ _ (same_writer c.seat.inside.seat.me c.load-front.new.seat.me c.load-front.ensures.2.0 c.seat.invariant.0))

pub invariant_of-result : goal.invariant_of-result
invariant_of-result c =
    let look = c.load-front.ensures.2 in let split = c.split_seat-seat.ensures in
    told_holds c.seat.inside.seat c.load-front.new.seat c.split_seat-seat.result c.seat.inside.used c.seat.inside.done c.load-front.result c.seat.invariant (ap (λ x. x.knows.begun) c.seat.view_is ∙ c.requires.idle) look.0 (search rules) (search rules) look.1
