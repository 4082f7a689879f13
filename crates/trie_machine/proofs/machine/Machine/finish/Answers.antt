use Rattle.std.proofs.Common.{refl, arith}
use Rattle.trie_image.specs.declared.StoreKind.TheVariants.{Finish}
use Rattle.trie_machine.proofs.Machines.{next_inside, finished_machine}
use Rattle.trie_machine.proofs.machine.Machine.finish.Goals as goal

pub index_mut-requires : goal.index_mut-requires
index_mut-requires c = omega (arith, c.self.inside.words.ok, next_inside _ _ c.args.self.now c.self.view_is c.self.invariant c.in-Some.next Finish (c.next_store.ensures.some c.in-Some.next c.in-Some.is))

pub invariant_of-self : goal.invariant_of-self
invariant_of-self c = finished_machine _ _ c.args.self.now c.self.view_is c.self.invariant c.in-Some.next Finish (c.next_store.ensures.some c.in-Some.next c.in-Some.is) _ refl _ refl refl
