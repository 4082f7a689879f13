use Rattle.std.proofs.Common.{[], arith}
use Rattle.trie_rule.specs.Rule.{write_view_of}
use Rattle.trie_rule.proofs.Keeps.{used_small}
use Rattle.trie_rule.proofs.seats.WriteSeat.used.Goals as goal

pub returns-clause-small : goal.returns-clause-small
returns-clause-small c = let i = c.self.invariant in omega (arith, i.2, used_small (write_view_of c.self.inside.seat.me.0) [] i.4)
