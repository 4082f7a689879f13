use Rattle.std.proofs.Common.{rules, arith, ap}
use Rattle.trie_rule.proofs.Watches.{owns_front}
use Rattle.trie_rule.proofs.SeatFields.{front_tells}
use Rattle.trie_rule.proofs.cells.ShardCells.front_as.Goals as goal

pub load-requires : goal.load-requires
load-requires g c = (search rules, omega (arith, c.self.invariant.0, c.self.invariant.3), owns_front _ _ _ _ _ g.A.Asks.find_key c.requires.reader c.requires.rests c.requires.may)

pub returns : goal.returns
returns g c =
    let e = c.load.ensures in let told = front_tells _ 0 0 _ _ _ g.A.Asks.find_key c.requires.reader e.2 in
    record { same = (e.0, e.1); cells = omega (arith, c.self.invariant.3, ap (λ x. x.cells) c.self.view_is); reader = told.0; values = told.1; front = told.2 }
