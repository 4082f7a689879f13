use Rattle.std.proofs.Common.{[], subst}
use Rattle.trie_rule.specs.Kinds.{IsStanding}
use Rattle.trie_rule.specs.Rule.{write_view_of}
use Rattle.trie_rule.specs.Seats.{WriterAt}
use Rattle.trie_rule.proofs.Keeps.{standing}
use Rattle.trie_rule.proofs.seats.WriteSeat.is_standing.Goals as goal

pub returns : goal.returns
returns c = subst (λ (x : WriterAt). IsStanding x.knows) c.self.view_is (standing (write_view_of c.self.inside.seat.me.0) [] c.self.invariant.4)
