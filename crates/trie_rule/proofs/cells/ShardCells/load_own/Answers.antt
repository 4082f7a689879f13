use Rattle.std.proofs.Common.{rules, arith, ap}
use Rattle.trie_rule.proofs.Keeps.{owns_look}
use Rattle.trie_rule.proofs.cells.ShardCells.load_own.Goals as goal

pub load-requires : goal.load-requires
load-requires c = (search rules, search rules, owns_look _ _ _ _ _ _ c.seat.invariant.0 (omega (arith, c.requires.inside, c.requires.own.1, ap (λ x. x.knows.cells) c.seat.view_is, ap (λ x. x.cells) c.self.view_is)))
