use Rattle.std.proofs.Common.{List, ◌++◌, [], ◌∷◌, sym, ap, ◌∙◌}
use Rattle.trie_image.specs.declared.WordStore.{WordStore}
use Rattle.trie_image.proofs.Planned.{take_here}
use Rattle.trie_image.proofs.plan.plan_put.Goals as goal

pub stores-preserved : goal.stores-preserved
stores-preserved c = c.in_ok-push.ensures.ok ∙ (ap (λ (l : List WordStore). l ++ c.store.result ∷ []) c.stores.invariant ∙ sym (take_here c.plan-plan.result c.stores.place c.store.result c.store.ensures))
