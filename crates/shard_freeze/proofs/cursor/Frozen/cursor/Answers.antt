use Rattle.std.proofs.Common.{sym, subst}
use Rattle.trie_rule.specs.Seats.{KeptWords}
use Rattle.shard_freeze.specs.Walk.{StandsInTrie}
use Rattle.shard_freeze.proofs.cursor.Frozen.cursor.Goals as goal

pub invariant_of-result : goal.invariant_of-result
invariant_of-result c = subst (λ (k : KeptWords). StandsInTrie k.words c.in_ok-walk.walk) (sym c.of.ensures) c.in_ok-walk.ensures.stands
