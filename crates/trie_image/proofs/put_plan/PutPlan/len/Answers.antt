use Rattle.std.proofs.Common.{List, length, ap, arith}
use Rattle.trie_image.specs.declared.WordStore.{WordStore}
use Rattle.trie_image.proofs.Planned.{length_stores}
use Rattle.trie_image.proofs.put_plan.PutPlan.len.Goals as goal

pub returns-clause-count : goal.returns-clause-count
returns-clause-count c = let p = c.self.inside in omega (arith, c.self.invariant, c.count_last.ensures.count p.publish, length_stores p.used p.number p.value.now p.rest.now p.more.now p.slot p.publish, ap (λ (l : List WordStore). length l) c.self.view_is)
