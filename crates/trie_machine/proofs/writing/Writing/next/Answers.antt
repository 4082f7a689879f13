use Rattle.std.proofs.Common.{rules, ◌≡◌, [], MatchOption, subst}
use Rattle.trie_machine.specs.declared.Begun.{Begun}
use Rattle.trie_machine.specs.Counted.{HasFirst}
use Rattle.trie_machine.proofs.Stores.{first_there}
use Rattle.trie_machine.proofs.writing.Writing.next.Goals as goal

pub returns : goal.returns
returns c = subst (λ (b : Begun). MatchOption c.store_in.result (b.left ≡ []) (λ s. HasFirst b.left s)) c.self.view_is (first_there c.self.inside.stores.items c.self.inside.made c.store_in.result (search rules))
