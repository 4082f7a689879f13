use Rattle.std.proofs.Common.{subst, ◌*◌}
use Rattle.trie_rule.specs.Kinds.{HasValuesBelow}
use Rattle.trie_rule.specs.Seats.{ReaderAt}
use Rattle.trie_rule.proofs.seats.ReadSeat.has_values.Goals as goal

pub returns : goal.returns
returns c = let i = c.self.invariant in subst (λ (x : ReaderAt). HasValuesBelow (4 * x.knows.cells) x.knows.seen) c.self.view_is i.6
