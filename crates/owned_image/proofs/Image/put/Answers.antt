use Rattle.std.proofs.Common.{◌++◌, [], ◌∷◌, arith}
use Rattle.trie_image.specs.Publish.{put_at}
use Rattle.owned_image.proofs.Held.{holds_more, used_fits, puts_it}
use Rattle.owned_image.proofs.Image.put.Goals as goal

pub overflow_add-self : goal.overflow_add-self
overflow_add-self c = omega (arith, used_fits c.self.inside.words c.self.view_is c.requires (λ i. omega (arith, c.type_inv.key i)) (λ i. omega (arith, c.type_inv.value i)) c.as_slice.ensures.value c.as_slice.ensures.len c.plan-plan.ensures.stores c.as_mut_slice.ensures.value c.make.ensures c.cells.ensures c.self.invariant.0 c.self.invariant.1)

pub invariant_of-self : goal.invariant_of-self
invariant_of-self c = (c.self.invariant.0 ++ put_at c.args.key.now c.args.value.now c.self.inside.used ∷ [], holds_more c.self.inside.words c.self.view_is c.requires (λ i. omega (arith, c.type_inv.key i)) (λ i. omega (arith, c.type_inv.value i)) c.as_slice.ensures.value c.as_slice.ensures.len c.plan-plan.ensures.stores c.as_mut_slice.ensures.value c.make.ensures c.cells.ensures c.self.invariant.0 c.self.invariant.1)

pub returns : goal.returns
returns c = puts_it c.self.inside.words c.self.view_is c.requires (λ i. omega (arith, c.type_inv.key i)) (λ i. omega (arith, c.type_inv.value i)) c.as_slice.ensures.value c.as_slice.ensures.len c.plan-plan.ensures.stores c.as_mut_slice.ensures.value c.make.ensures c.cells.ensures
