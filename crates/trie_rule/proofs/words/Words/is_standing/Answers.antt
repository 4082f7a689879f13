use Rattle.std.proofs.Common.{subst}
use Rattle.trie_machine.specs.State.{HasImage}
use Rattle.trie_rule.specs.Seats.{KeptWords}
use Rattle.trie_rule.proofs.words.Words.is_standing.Goals as goal

pub returns : goal.returns
returns c = let k = c.self.inside.last.value.knows in (k.cells, k.used, subst (λ (x : KeptWords). HasImage x.words k.cells k.used x.made) c.self.view_is c.self.invariant.2)
