use Rattle.std.proofs.Common.{◌≡◌, sym, ap, ◌∙◌, subst}
use Rattle.trie_rule.specs.Seats.{KeptWords}
use Rattle.shard_freeze.specs.Cursor.{CursorAt}
use Rattle.shard_freeze.specs.Walk.{StandsInTrie}
use Rattle.shard_freeze.proofs.cursor.Frozen.next_into.Goals as goal

pub list_next-requires : goal.list_next-requires
list_next-requires c =
    let same : c.cursor.inside.frozen.value ≡ c.self.inside.words = ap (λ (k : CursorAt). k.frozen) c.cursor.view_is ∙ c.requires ∙ sym c.self.view_is in
    record { stands = subst (λ (k : KeptWords). StandsInTrie k.words c.cursor.inside.walk) same c.cursor.invariant }

pub invariant_of-cursor : goal.invariant_of-cursor
invariant_of-cursor c =
    let same : c.cursor.inside.frozen.value ≡ c.self.inside.words = ap (λ (k : CursorAt). k.frozen) c.cursor.view_is ∙ c.requires ∙ sym c.self.view_is in
    subst (λ (k : KeptWords). StandsInTrie k.words c.list_next.new.walk) (sym same) c.list_next.ensures.stands
